use Rattle.std.proofs.Common.{rules, sym, subst, slice_index_or}
use Rattle.turn_lock.specs.Rows.{RestRow}
use Rattle.turn_tests.specs.Rounds.{SeenRow}
use Rattle.turn_tests.proofs.Rounds.{rounds_after, rounds_ready}
use Rattle.turn_tests.proofs.row.all_rounds.Goals as goal

pub for_each_mut-requires-clause-accepts : goal.for_each_mut-requires-clause-accepts
for_each_mut-requires-clause-accepts g c = λ κs within i p l e.
    subst (λ w. RestRow c.args.turns.now.items w.items) (sym e) (rounds_ready (λ s. s.items) c.args.turns.now.items c.args.rows.now i p.now c.requires l)

pub returns-clause-seen : goal.returns-clause-seen
returns-clause-seen g c =
    let ts = c.args.turns.now.items in
    let old = c.args.rows.now in
    let new = c.for_each_mut.new.s in
    rounds_after (λ s. s.items) ts old new (search rules) c.requires (λ i d l.
    let h = (c.for_each_mut.ensures i d l).1 in
    subst (λ v. SeenRow (slice_index_or old i d).items v.items) h.left
    (subst (λ u. SeenRow u.items h.after_call.now.items) h.argument_is h.call))
