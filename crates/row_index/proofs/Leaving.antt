-- Rows of a group that leave, with their slots.
use Rattle.std.proofs.Common.{◌≡◌, ◌∙◌, ℕ, Bool, true, false, cond, List, [], ◌∷◌, refl, ap, sym, subst, Some, None}
use Rattle.std.specs.Prelude.{◌||◌, ◌&&◌, ◌==◌, not, IfSome, if◌then◌else◌}
use Rattle.std.specs.List.Sorted.{IsStrictlySortedBy}
use Rattle.std.specs.Cmp.{tied_itself, unsigned_tied, nat_eq_equiv}
use Rattle.std.specs.Ordering.{is_eq, nat_cmp}
use Rattle.std.specs.declared.option.Option.{Option}
use Rattle.okws_base.specs.Value.{value_cmp}
use Rattle.okws_base.specs.declared.value.Value.{Value}
use Rattle.okws_plan.specs.Meaning.{at_column}
use Rattle.row_index.specs.Places.{merged}
use Rattle.row_index.specs.Groups.{group_cmp}
use Rattle.row_index.specs.Order.{exact_values, groups_total}
use Rattle.row_index.specs.GroupPlaces.{is_among}
use Rattle.row_index.specs.Slots.{holds, group_places}
use Rattle.row_index.specs.Index.{is_indexed, cell, is_value, due}
use Rattle.row_index.specs.Changes.{comes_at, after_change, changed, removals_at}
use Rattle.row_index.specs.declared.slot.Group.{Group}
use Rattle.row_index.specs.declared.slot.Slot.{Slot}
use Rattle.row_index.specs.declared.slots.Slots.{Slots}
use Rattle.row_index.proofs.Bools.{and_first, and_rest}
use Rattle.row_index.proofs.Grouped.{made, own}
use Rattle.row_index.proofs.Moved.{equal_of, nat_same, nobody_due}

value_there : (v : Value) (c : ℕ) (row : List Value) → is_value v (cell c (Some row)) ≡ true → at_column row c ≡ v
value_there v c row h = exact_values (at_column row c) v (equal_of (value_cmp (at_column row c) v) h)

-- The slot of a row of the group for its column is of the group.
pub of_group : (g : Group) (p : ℕ) (row : List Value) (q : Slot) → is_value g.value (cell g.column (Some row)) ≡ true → comes_at (Some g.column) p row q ≡ true → is_eq (group_cmp g q.group) ≡ true
of_group g p row q has h =
    let same : g.column ≡ q.group.column = nat_same g.column q.group.column (and_first (g.column == q.group.column) ((p == q.place) && is_value q.group.value (cell q.group.column (Some row))) h) in
    let rest : ((p == q.place) && is_value q.group.value (cell q.group.column (Some row))) ≡ true = and_rest (g.column == q.group.column) ((p == q.place) && is_value q.group.value (cell q.group.column (Some row))) h in
    let theirs : at_column row q.group.column ≡ q.group.value = value_there q.group.value q.group.column row (and_rest (p == q.place) (is_value q.group.value (cell q.group.column (Some row))) rest) in
    let ours : at_column row g.column ≡ g.value = value_there g.value g.column row has in
    let values : g.value ≡ q.group.value = sym ours ∙ ap (at_column row) same ∙ theirs in
    let groups : g ≡ q.group = ap (λ (c : ℕ). made c g.value) same ∙ ap (made q.group.column) values in
    ap (λ (h : Group). is_eq (group_cmp g h)) (sym groups) ∙ ap is_eq (tied_itself groups_total g)

-- What is of no use in one order isn't in another.
pub swapped : (a g K : Bool) → (not a && (not g && K)) ≡ (not g && (not a && K))
swapped true true K = refl
swapped true false K = refl
swapped false true K = refl
swapped false false K = refl

nothing_left : (o : Option (List Value)) → merged o None ≡ None
nothing_left None = refl
nothing_left (Some row) = refl

-- After one row was taken away.
pub after_removal : (place p : ℕ) (o : Option (List Value)) → after_change p o (record { place = place; row = None }) ≡ cond (place == p) None o
after_removal place p o = by (place == p)
  where
    by : (b : Bool) → (if b then merged o None else o) ≡ cond b None o
    by true = nothing_left o
    by false = refl

-- Where no row stands none is taken away.
pub none_stays : (places : List ℕ) (p : ℕ) → changed (removals_at places) None p ≡ None
none_stays [] p = refl
none_stays (n ∷ places) p = by (n == p) (none_stays places p)
  where
    by : (b : Bool) → changed (removals_at places) None p ≡ None → changed (removals_at places) (if b then merged None None else None) p ≡ None
    by true rest = rest
    by false rest = rest

among_first : (p n : ℕ) (b : Bool) → (n == p) ≡ b → is_eq (nat_cmp p n) ≡ b
among_first p n b is = unsigned_tied p n ∙ nat_eq_equiv.symm p n ∙ is

-- After the rows of these places were taken away.
pub after_removals : (places : List ℕ) (p : ℕ) (o : Option (List Value)) → changed (removals_at places) o p ≡ cond (is_among p places) None o
after_removals [] p o = refl
after_removals (n ∷ places) p o = by (n == p) refl (after_removals places p o)
  where
    by : (b : Bool) → (n == p) ≡ b → changed (removals_at places) o p ≡ cond (is_among p places) None o
        → changed (removals_at places) (if n == p then merged o None else o) p ≡ cond (is_eq (nat_cmp p n) || is_among p places) None o
    by true is rest =
        ap (λ (b : Bool). changed (removals_at places) (if b then merged o None else o) p) is
        ∙ ap (λ (w : Option (List Value)). changed (removals_at places) w p) (nothing_left o)
        ∙ none_stays places p
        ∙ sym (ap (λ (b : Bool). cond (b || is_among p places) None o) (among_first p n true is))
    by false is rest =
        ap (λ (b : Bool). changed (removals_at places) (if b then merged o None else o) p) is
        ∙ rest
        ∙ sym (ap (λ (b : Bool). cond (b || is_among p places) None o) (among_first p n false is))

-- The first place is among them.
pub first_among : (p : ℕ) (places : List ℕ) → is_among p (p ∷ places) ≡ true
first_among p places = ap (λ (b : Bool). b || is_among p places) (among_first p p true (nat_eq_equiv.refl p))

has_there : (v : Value) (c : ℕ) (o : Option (List Value)) → is_value v (cell c o) ≡ true → IfSome o (λ (row : List Value). is_value v (cell c (Some row)) ≡ true)
has_there v c None h = tt
has_there v c (Some row) h = h

-- The row of a place of the group has its value.
pub own_row : (columns : List ℕ) (at : ℕ → Option (List Value)) (slots : Slots) (g : Group) (p : ℕ) → ((q : Slot) → holds slots q ≡ due columns (at q.place) q) → is_among p (group_places slots g) ≡ true → IfSome (at p) (λ (row : List Value). is_value g.value (cell g.column (Some row)) ≡ true)
own_row columns at slots g p exact among =
    has_there g.value g.column (at p)
    (and_rest (is_indexed columns g.column) (is_value g.value (cell g.column (at p))) (sym (exact (record { group = g; place = p })) ∙ among))

left_own : (b : Bool) (o : Option (List Value)) (P : List Value → Type 0) → IfSome o P → IfSome (cond b None o) P
left_own true o P h = tt
left_own false o P h = h

-- And so has each that is left, once another one was taken away.
pub still_own : (place p : ℕ) (o now : Option (List Value)) (P : List Value → Type 0) → now ≡ after_change p o (record { place = place; row = None }) → IfSome o P → IfSome now P
still_own place p o now P is h = subst (λ (w : Option (List Value)). IfSome w P) (sym (is ∙ after_removal place p o)) (left_own (place == p) o P h)

-- Once all rows of the group were taken away, its slots are those that are due.
pub none_due : (columns : List ℕ) (at now : ℕ → Option (List Value)) (old new : Slots) (g : Group) (q : Slot) → ((q : Slot) → holds old q ≡ due columns (at q.place) q) → now q.place ≡ changed (removals_at (group_places old g)) (at q.place) q.place
    → holds new q ≡ (not (is_eq (group_cmp g q.group)) && due columns (now q.place) q) → holds new q ≡ due columns (now q.place) q
none_due columns at now old new g q exact left but = by (is_eq (group_cmp g q.group)) (is_among q.place (group_places old g)) refl refl
  where
    stands_so : now q.place ≡ cond (is_among q.place (group_places old g)) None (at q.place)
    stands_so = left ∙ after_removals (group_places old g) q.place (at q.place)

    by : (b m : Bool) → is_eq (group_cmp g q.group) ≡ b → is_among q.place (group_places old g) ≡ m → holds new q ≡ due columns (now q.place) q
    by false m is among = but ∙ ap (λ (b : Bool). not b && due columns (now q.place) q) is
    by true true is among =
        but
        ∙ ap (λ (b : Bool). not b && due columns (now q.place) q) is
        ∙ sym (nobody_due columns (now q.place) q (stands_so ∙ ap (λ (b : Bool). cond b None (at q.place)) among))
    by true false is among =
        but
        ∙ ap (λ (b : Bool). not b && due columns (now q.place) q) is
        ∙ sym among
        ∙ sym (own old g q is)
        ∙ exact q
        ∙ ap (λ (o : Option (List Value)). due columns o q) (sym (stands_so ∙ ap (λ (b : Bool). cond b None (at q.place)) among))

none_sorted : IsStrictlySortedBy nat_cmp []
unfolding IsStrictlySortedBy
none_sorted = tt

-- No places, and one, are in order.
pub none_ordered : (places : List ℕ) → [] ≡ places → IsStrictlySortedBy nat_cmp places
none_ordered places is = subst (IsStrictlySortedBy nat_cmp) is none_sorted

pub one_sorted : (p : ℕ) → IsStrictlySortedBy nat_cmp (p ∷ [])
unfolding IsStrictlySortedBy
one_sorted p = (tt, tt)

pub one_ordered : (p : ℕ) (places : List ℕ) → p ∷ [] ≡ places → IsStrictlySortedBy nat_cmp places
one_ordered p places is = subst (IsStrictlySortedBy nat_cmp) is (one_sorted p)
