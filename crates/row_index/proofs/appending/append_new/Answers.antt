use Rattle.std.proofs.Common.{◌≡◌, ◌∙◌, ap, sym, subst, ℕ, Bool, List, rules, arith, length, Some, ◌++◌, ◌∷◌, []}
use Rattle.std.specs.Prelude.{◌&&◌, ◌||◌, ◌==◌}
use Rattle.std.specs.List.Sorted.{IsStrictlySortedBy}
use Rattle.std.specs.Ordering.{nat_cmp}
use Rattle.okws_base.specs.declared.value.Value.{Value}
use Rattle.okws_plan.specs.Meaning.{at_column}
use Rattle.row_index.specs.Slots.{holds, places_in}
use Rattle.row_index.specs.Changes.{comes_at}
use Rattle.row_index.specs.declared.slot.Slot.{Slot}
use Rattle.row_index.proofs.Taken.{taken_whole}
use Rattle.row_index.proofs.appending.append_new.Goals as goal

pub returns-in_err-put_key-clause-index : goal.returns-in_err-put_key-clause-index
returns-in_err-put_key-clause-index c = record { exact = λ (q : Slot). c.in_err-put_key.ensures.err q ∙ c.requires.index.exact q }

pub returns-then-not-branch-clause-index : goal.returns-then-not-branch-clause-index
returns-then-not-branch-clause-index c = record {
  exact = λ (q : Slot).
      c.in_ok-put_key.ensures.ok q
      ∙ ap (λ (b : Bool). (b && comes_at (Some c.args.key) c.next-place.result c.deref_mut.result.now q) || holds c.args.slots.now q) c.if-not-branch.true
      ∙ c.requires.index.exact q;
}

pub returns-then-not-branch-clause-came : goal.returns-then-not-branch-clause-came
returns-then-not-branch-clause-came c =
    let same : c.deref_mut.result.now ≡ c.args.row = search rules in
    sym c.if-not-branch.true
    ∙ c.in_ok-put_key.ensures.came
    ∙ ap (λ (row : List Value). length (places_in c.args.key (at_column row c.args.key) c.args.slots.now) == 0) same

pub returns-then-not-branch-clause-ordered : goal.returns-then-not-branch-clause-ordered
returns-then-not-branch-clause-ordered c =
    let same : c.deref_mut.result.now ≡ c.args.row = search rules in
    subst (λ (row : List Value). IsStrictlySortedBy nat_cmp (places_in c.args.key (at_column row c.args.key) c.args.slots.now)) same c.in_ok-put_key.ensures.ordered

pub put_behind-requires-clause-index : goal.put_behind-requires-clause-index
put_behind-requires-clause-index c =
    let same : c.deref_mut.result.now ≡ c.args.row = search rules in
    let full : length c.put_key.new.values ≡ c.into_vec-values.result.len = omega (arith, ap length c.in_ok-put_key.ensures.values, ap length c.deref_mut.ensures.value, c.into_vec-values.result.ok.0) in
    let left : c.of.result ≡ c.put_key.new.values = c.of.ensures ∙ taken_whole c.into_vec-values.result.len c.put_key.new.values _ full in
    let kept : c.of.result ≡ c.args.row = left ∙ c.in_ok-put_key.ensures.values ∙ same in
    λ (q : Slot).
    c.in_ok-put_key.ensures.ok q
    ∙ ap (λ (b : Bool). (b && comes_at (Some c.args.key) c.next-place.result c.deref_mut.result.now q) || holds c.args.slots.now q) c.if-not-branch.false
    ∙ ap (λ (row : List Value). comes_at (Some c.args.key) c.next-place.result row q || holds c.args.slots.now q) (same ∙ sym kept)
    ∙ ap (λ (n : ℕ). comes_at (Some c.args.key) n c.of.result q || holds c.args.slots.now q) c.next-place.ensures
    ∙ ap (λ (b : Bool). comes_at (Some c.args.key) c.args.rows.now.next c.of.result q || b) (c.requires.index.exact q)

pub returns-clause-came : goal.returns-clause-came
returns-clause-came c =
    let same : c.deref_mut.result.now ≡ c.args.row = search rules in
    sym c.if-not-branch.false
    ∙ c.in_ok-put_key.ensures.came
    ∙ ap (λ (row : List Value). length (places_in c.args.key (at_column row c.args.key) c.args.slots.now) == 0) same

pub returns-clause-ordered : goal.returns-clause-ordered
returns-clause-ordered c =
    let same : c.deref_mut.result.now ≡ c.args.row = search rules in
    subst (λ (row : List Value). IsStrictlySortedBy nat_cmp (places_in c.args.key (at_column row c.args.key) c.args.slots.now)) same c.in_ok-put_key.ensures.ordered

pub returns-clause-entries : goal.returns-clause-entries
returns-clause-entries c =
    let same : c.deref_mut.result.now ≡ c.args.row = search rules in
    let full : length c.put_key.new.values ≡ c.into_vec-values.result.len = omega (arith, ap length c.in_ok-put_key.ensures.values, ap length c.deref_mut.ensures.value, c.into_vec-values.result.ok.0) in
    let left : c.of.result ≡ c.put_key.new.values = c.of.ensures ∙ taken_whole c.into_vec-values.result.len c.put_key.new.values _ full in
    let kept : c.of.result ≡ c.args.row = left ∙ c.in_ok-put_key.ensures.values ∙ same in
    λ h. c.in_ok-put_behind.ensures.entries ∙ ap (λ (row : List Value). c.args.rows.now.entries ++ (c.args.rows.now.next, row) ∷ []) kept
