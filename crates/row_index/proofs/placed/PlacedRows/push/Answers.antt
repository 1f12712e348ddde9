use Rattle.std.proofs.Common.{◌≡◌, ◌+◌, ℕ, Some, rules}
use Rattle.row_index.proofs.Stands.{rises_more, rows_rise, free_above, stands_more, pushed_at}
use Rattle.row_index.proofs.placed.PlacedRows.push.Goals as goal

pub returns-in_default-clause-rising : goal.returns-in_default-clause-rising
returns-in_default-clause-rising c = rw (← c.self.view_is) (rows_rise c.self.inside.stands.items c.self.inside.next c.self.invariant)

pub returns-in_default-clause-free : goal.returns-in_default-clause-free
returns-in_default-clause-free c = rw (← c.self.view_is) (λ (p : ℕ) h. free_above c.self.inside.stands.items c.self.inside.next p c.self.invariant h)

pub returns-in-Err-clause-rising : goal.returns-in-Err-clause-rising
returns-in-Err-clause-rising c = rw c.in-Err.ensures.items (rows_rise c.self.inside.stands.items c.self.inside.next c.self.invariant)

pub returns-in-Err-clause-free : goal.returns-in-Err-clause-free
returns-in-Err-clause-free c = rw c.in-Err.ensures.items (λ (p : ℕ) h. free_above c.self.inside.stands.items c.self.inside.next p c.self.invariant h)

pub invariant_of-self-2 : goal.invariant_of-self-2
invariant_of-self-2 c =
    let more : c.in-Some.next ≡ c.self.inside.next + 1 = search rules in
    rw (c.in_default-push.ensures.items, more) (rises_more c.self.inside.stands.items c.self.inside.next (Some c.args.row) c.self.invariant)

pub returns-clause-entries : goal.returns-clause-entries
returns-clause-entries c =
    rw (← c.self.view_is, c.in_default-push.ensures.items) (stands_more c.self.inside.stands.items c.self.inside.next c.args.row)

pub returns-clause-rows : goal.returns-clause-rows
returns-clause-rows c =
    rw (← c.self.view_is, c.in_default-push.ensures.items) (λ (p : ℕ). pushed_at c.self.inside.stands.items c.self.inside.next c.args.row p c.self.invariant)

pub returns-clause-rising : goal.returns-clause-rising
returns-clause-rising c =
    rw c.in_default-push.ensures.items (rows_rise _ (c.self.inside.next + 1) (rises_more c.self.inside.stands.items c.self.inside.next (Some c.args.row) c.self.invariant))

pub returns-clause-free : goal.returns-clause-free
returns-clause-free c =
    let more : c.in-Some.next ≡ c.self.inside.next + 1 = search rules in
    rw (c.in_default-push.ensures.items, more) (λ (p : ℕ) h. free_above _ (c.self.inside.next + 1) p (rises_more c.self.inside.stands.items c.self.inside.next (Some c.args.row) c.self.invariant) h)
