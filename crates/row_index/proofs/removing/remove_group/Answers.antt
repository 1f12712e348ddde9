use Rattle.std.proofs.Common.{◌≡◌, ◌∙◌, ap, sym, subst, ℕ, Bool, List, [], ◌∷◌, Option, length, rules}
use Rattle.std.specs.Prelude.{not, ◌&&◌}
use Rattle.std.specs.BTreeSet.{BTreeSet}
use Rattle.std.specs.List.Sorted.{IsStrictlySortedBy}
use Rattle.std.specs.Ordering.{is_eq, nat_cmp}
use Rattle.okws_base.specs.declared.value.Value.{Value}
use Rattle.row_index.specs.Places.{row_at}
use Rattle.row_index.specs.Stands.{Placed}
use Rattle.row_index.specs.Groups.{group_cmp}
use Rattle.row_index.specs.GroupPlaces.{is_among, places_listed}
use Rattle.row_index.specs.Slots.{group_places}
use Rattle.row_index.specs.Index.{due}
use Rattle.row_index.specs.Changes.{changed, removals_at}
use Rattle.row_index.specs.declared.slot.Slot.{Slot}
use Rattle.row_index.proofs.Leaving.{own_row, first_among, none_due, none_ordered, one_ordered, none_stays}
use Rattle.row_index.proofs.removing.remove_group.Goals as goal

pub remove_other-requires-clause-index : goal.remove_other-requires-clause-index
remove_other-requires-clause-index c = record { exact = λ (q : Slot). c.take_group.ensures.slots q ∙ ap (λ (b : Bool). not (is_eq (group_cmp c.args.group.now q.group)) && b) (c.requires.index.exact q) }

pub remove_other-requires-clause-own : goal.remove_other-requires-clause-own
remove_other-requires-clause-own c =
    let places : c.in-Some-Sole.place ∷ [] ≡ group_places c.args.slots.now c.args.group.now = sym (ap places_listed c.in-Some-Sole.field-0-is) ∙ c.in-Some-Sole.ensures.places in
    own_row c.args.columns.now (row_at c.args.rows.now.entries) c.args.slots.now c.args.group.now c.in-Some-Sole.place (λ (q : Slot). c.requires.index.exact q)
    (ap (is_among c.in-Some-Sole.place) (sym places) ∙ first_among c.in-Some-Sole.place [])

pub remove_others-requires-clause-index : goal.remove_others-requires-clause-index
remove_others-requires-clause-index c = record { exact = λ (q : Slot). c.take_group.ensures.slots q ∙ ap (λ (b : Bool). not (is_eq (group_cmp c.args.group.now q.group)) && b) (c.requires.index.exact q) }

pub remove_others-requires-clause-own : goal.remove_others-requires-clause-own
remove_others-requires-clause-own c =
    let places : c.in-Some-Several.places.value.keys ≡ group_places c.args.slots.now c.args.group.now = sym (ap places_listed c.in-Some-Several.field-0-is) ∙ c.in-Some-Several.ensures.places in
    let inner : c.into_inner.result ≡ c.in-Some-Several.places.value = search rules in
    let moved : c.into_inner.result.keys ≡ group_places c.args.slots.now c.args.group.now = ap (λ (s : BTreeSet ℕ). s.keys) inner ∙ places in
    λ (p : ℕ) h.
    own_row c.args.columns.now (row_at c.args.rows.now.entries) c.args.slots.now c.args.group.now p (λ (q : Slot). c.requires.index.exact q)
    (ap (is_among p) (sym moved) ∙ h)

pub returns-in-None-clause-index : goal.returns-in-None-clause-index
returns-in-None-clause-index c = record {
  exact = λ (q : Slot).
      none_due c.args.columns.now (row_at c.args.rows.now.entries) (row_at c.args.rows.now.entries) c.args.slots.now c.take_group.new.self c.args.group.now q (λ (s : Slot). c.requires.index.exact s)
      (ap (λ (places : List ℕ). changed (removals_at places) (row_at c.args.rows.now.entries q.place) q.place) c.in-None.ensures.places)
      (c.take_group.ensures.slots q ∙ ap (λ (b : Bool). not (is_eq (group_cmp c.args.group.now q.group)) && b) (c.requires.index.exact q));
}

pub returns-in-None-clause-count : goal.returns-in-None-clause-count
returns-in-None-clause-count c = ap length c.in-None.ensures.places

pub returns-in-None-clause-rows : goal.returns-in-None-clause-rows
returns-in-None-clause-rows c = λ (p : ℕ). ap (λ (places : List ℕ). changed (removals_at places) (row_at c.args.rows.now.entries p) p) c.in-None.ensures.places

pub returns-in-None-clause-ordered : goal.returns-in-None-clause-ordered
returns-in-None-clause-ordered c = none_ordered (group_places c.args.slots.now c.args.group.now) c.in-None.ensures.places

pub returns-in-Some-Sole-clause-index : goal.returns-in-Some-Sole-clause-index
returns-in-Some-Sole-clause-index c =
    let places : c.in-Some-Sole.place ∷ [] ≡ group_places c.args.slots.now c.args.group.now = sym (ap places_listed c.in-Some-Sole.field-0-is) ∙ c.in-Some-Sole.ensures.places in
    record {
      exact = λ (q : Slot).
          none_due c.args.columns.now (row_at c.args.rows.now.entries) (row_at c.remove_other.new.rows.entries) c.args.slots.now c.remove_other.new.slots c.args.group.now q (λ (s : Slot). c.requires.index.exact s)
          (c.remove_other.ensures.rows q.place ∙ ap (λ (places : List ℕ). changed (removals_at places) (row_at c.args.rows.now.entries q.place) q.place) places)
          (c.remove_other.ensures.index.exact q)
          ∙ ap (λ (rows : Placed). due c.args.columns.now (row_at rows.entries q.place) q) (sym c.tidy.ensures);
    }

pub returns-in-Some-Sole-clause-count : goal.returns-in-Some-Sole-clause-count
returns-in-Some-Sole-clause-count c =
    let places : c.in-Some-Sole.place ∷ [] ≡ group_places c.args.slots.now c.args.group.now = sym (ap places_listed c.in-Some-Sole.field-0-is) ∙ c.in-Some-Sole.ensures.places in
    ap length places

pub returns-in-Some-Sole-clause-rows : goal.returns-in-Some-Sole-clause-rows
returns-in-Some-Sole-clause-rows c =
    let places : c.in-Some-Sole.place ∷ [] ≡ group_places c.args.slots.now c.args.group.now = sym (ap places_listed c.in-Some-Sole.field-0-is) ∙ c.in-Some-Sole.ensures.places in
    λ (p : ℕ).
    ap (λ (rows : Placed). row_at rows.entries p) c.tidy.ensures
    ∙ c.remove_other.ensures.rows p
    ∙ ap (λ (places : List ℕ). changed (removals_at places) (row_at c.args.rows.now.entries p) p) places

pub returns-in-Some-Sole-clause-ordered : goal.returns-in-Some-Sole-clause-ordered
returns-in-Some-Sole-clause-ordered c =
    let places : c.in-Some-Sole.place ∷ [] ≡ group_places c.args.slots.now c.args.group.now = sym (ap places_listed c.in-Some-Sole.field-0-is) ∙ c.in-Some-Sole.ensures.places in
    one_ordered c.in-Some-Sole.place (group_places c.args.slots.now c.args.group.now) places

pub returns-in-Some-Sole-clause-none : goal.returns-in-Some-Sole-clause-none
returns-in-Some-Sole-clause-none c = λ (p : ℕ) h.
    ap (λ (rows : Placed). row_at rows.entries p) c.tidy.ensures
    ∙ c.remove_other.ensures.rows p
    ∙ ap (λ (o : Option (List Value)). changed (removals_at (c.in-Some-Sole.place ∷ [])) o p) h
    ∙ none_stays (c.in-Some-Sole.place ∷ []) p

pub returns-in-Some-Several-clause-index : goal.returns-in-Some-Several-clause-index
returns-in-Some-Several-clause-index c =
    let places : c.in-Some-Several.places.value.keys ≡ group_places c.args.slots.now c.args.group.now = sym (ap places_listed c.in-Some-Several.field-0-is) ∙ c.in-Some-Several.ensures.places in
    let inner : c.into_inner.result ≡ c.in-Some-Several.places.value = search rules in
    let moved : c.into_inner.result.keys ≡ group_places c.args.slots.now c.args.group.now = ap (λ (s : BTreeSet ℕ). s.keys) inner ∙ places in
    record {
      exact = λ (q : Slot).
          none_due c.args.columns.now (row_at c.args.rows.now.entries) (row_at c.remove_others.new.rows.entries) c.args.slots.now c.remove_others.new.slots c.args.group.now q (λ (s : Slot). c.requires.index.exact s)
          (c.remove_others.ensures.rows q.place ∙ ap (λ (places : List ℕ). changed (removals_at places) (row_at c.args.rows.now.entries q.place) q.place) moved)
          (c.remove_others.ensures.index.exact q)
          ∙ ap (λ (rows : Placed). due c.args.columns.now (row_at rows.entries q.place) q) (sym c.tidy-in-Some-Several.ensures);
    }

pub returns-in-Some-Several-clause-count : goal.returns-in-Some-Several-clause-count
returns-in-Some-Several-clause-count c =
    let places : c.in-Some-Several.places.value.keys ≡ group_places c.args.slots.now c.args.group.now = sym (ap places_listed c.in-Some-Several.field-0-is) ∙ c.in-Some-Several.ensures.places in
    let lent : c.deref.result.now ≡ c.in-Some-Several.places.value = search rules in
    let seen : c.deref.result.now.keys ≡ group_places c.args.slots.now c.args.group.now = ap (λ (s : BTreeSet ℕ). s.keys) lent ∙ places in
    c.len-count.ensures.len ∙ ap length seen

pub returns-in-Some-Several-clause-rows : goal.returns-in-Some-Several-clause-rows
returns-in-Some-Several-clause-rows c =
    let places : c.in-Some-Several.places.value.keys ≡ group_places c.args.slots.now c.args.group.now = sym (ap places_listed c.in-Some-Several.field-0-is) ∙ c.in-Some-Several.ensures.places in
    let inner : c.into_inner.result ≡ c.in-Some-Several.places.value = search rules in
    let moved : c.into_inner.result.keys ≡ group_places c.args.slots.now c.args.group.now = ap (λ (s : BTreeSet ℕ). s.keys) inner ∙ places in
    λ (p : ℕ).
    ap (λ (rows : Placed). row_at rows.entries p) c.tidy-in-Some-Several.ensures
    ∙ c.remove_others.ensures.rows p
    ∙ ap (λ (places : List ℕ). changed (removals_at places) (row_at c.args.rows.now.entries p) p) moved

pub returns-in-Some-Several-clause-ordered : goal.returns-in-Some-Several-clause-ordered
returns-in-Some-Several-clause-ordered c =
    let places : c.in-Some-Several.places.value.keys ≡ group_places c.args.slots.now c.args.group.now = sym (ap places_listed c.in-Some-Several.field-0-is) ∙ c.in-Some-Several.ensures.places in
    let lent : c.deref.result.now ≡ c.in-Some-Several.places.value = search rules in
    let seen : c.deref.result.now.keys ≡ group_places c.args.slots.now c.args.group.now = ap (λ (s : BTreeSet ℕ). s.keys) lent ∙ places in
    subst (IsStrictlySortedBy nat_cmp) seen c.len-count.ensures.ordered

pub returns-in-Some-Several-clause-none : goal.returns-in-Some-Several-clause-none
returns-in-Some-Several-clause-none c = λ (p : ℕ) h.
    ap (λ (rows : Placed). row_at rows.entries p) c.tidy-in-Some-Several.ensures
    ∙ c.remove_others.ensures.rows p
    ∙ ap (λ (o : Option (List Value)). changed (removals_at c.into_inner.result.keys) o p) h
    ∙ none_stays c.into_inner.result.keys p
