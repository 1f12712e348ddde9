-- Slots that come and go with changes of rows keep an index.
use Rattle.std.proofs.Common.{◌≡◌, ◌∙◌, ℕ, Bool, true, false, cond, List, [], ◌∷◌, refl, ap, sym, subst, Some, None}
use Rattle.std.specs.Prelude.{map, ◌||◌, ◌&&◌, ◌==◌, not, if◌then◌else◌}
use Rattle.std.specs.List.{list_any, AllByRecursion}
use Rattle.std.specs.List.Sorted.{IsStrictlySortedBy}
use Rattle.std.specs.Cmp.{nat_cmp_total, tied_then, tied_itself, unsigned_tied, nat_eq_equiv}
use Rattle.std.specs.Ordering.{is_eq, nat_cmp, ordering_then}
use Rattle.std.specs.declared.cmp.Ordering.{Ordering}
use Rattle.std.specs.declared.cmp.Ordering.TheVariants.{Less, Equal, Greater}
use Rattle.std.specs.declared.option.Option.{Option}
use Rattle.std.proofs.lemmas.Map.Keys.{sorted_head, sorted_tail}
use Rattle.std.proofs.lemmas.Map.Lookups.{exact_unsigned}
use Rattle.okws_base.specs.Value.{value_cmp}
use Rattle.okws_base.specs.declared.value.Value.{Value}
use Rattle.row_index.specs.Places.{merged}
use Rattle.row_index.specs.Order.{exact_values, values_total}
use Rattle.row_index.specs.Slots.{slot_cmp}
use Rattle.row_index.specs.Index.{is_indexed, cell, is_value, due}
use Rattle.row_index.specs.Changes.{same_cell, stands, comes, goes, comes_with, goes_with, after_change, changed}
use Rattle.row_index.specs.declared.slot.Slot.{Slot}
use Rattle.row_index.specs.declared.changing.Change.{Change}

pub equal_of : (o : Ordering) → is_eq o ≡ true → o ≡ Equal
equal_of Less e = let never : ⊥ = cc in absurd never
equal_of Equal e = refl
equal_of Greater e = let never : ⊥ = cc in absurd never

pub nat_same : (a b : ℕ) → (a == b) ≡ true → a ≡ b
nat_same a b h = exact_unsigned a b (equal_of (nat_cmp a b) (unsigned_tied a b ∙ h))

shuffled : (v d p : Bool) → ((v && d) && p) ≡ ((d && p) && v)
shuffled true true true = refl
shuffled true true false = refl
shuffled true false p = refl
shuffled false true true = refl
shuffled false true false = refl
shuffled false false p = refl

-- When a slot is one of a column, a value and a place.
pub slot_is : (d p : ℕ) (x : Value) (q : Slot) → is_eq (slot_cmp (record { group = record { column = d; value = x }; place = p }) q) ≡ (stands d p q && is_eq (value_cmp x q.group.value))
slot_is d p x q =
    sym (tied_then (ordering_then (value_cmp x q.group.value) (nat_cmp d q.group.column)) (nat_cmp p q.place))
    ∙ ap (λ (b : Bool). b && is_eq (nat_cmp p q.place)) (sym (tied_then (value_cmp x q.group.value) (nat_cmp d q.group.column)))
    ∙ ap (λ (b : Bool). (is_eq (value_cmp x q.group.value) && b) && is_eq (nat_cmp p q.place)) (unsigned_tied d q.group.column)
    ∙ ap (λ (b : Bool). (is_eq (value_cmp x q.group.value) && (d == q.group.column)) && b) (unsigned_tied p q.place)
    ∙ shuffled (is_eq (value_cmp x q.group.value)) (d == q.group.column) (p == q.place)

absorbed : (i x : Bool) → (x || (i && x)) ≡ x
absorbed true true = refl
absorbed true false = refl
absorbed false true = refl
absorbed false false = refl

-- A test at the slot's own column stands for one at any of the columns.
any_column : (Y : ℕ → Bool) (p : ℕ) (q : Slot) (columns : List ℕ) → list_any (λ (d : ℕ). stands d p q && Y d) columns ≡ (is_indexed columns q.group.column && ((p == q.place) && Y q.group.column))
any_column Y p q [] = refl
any_column Y p q (d ∷ ds) = by (d == q.group.column) refl (any_column Y p q ds)
  where
    by : (b : Bool) → (d == q.group.column) ≡ b → list_any (λ (e : ℕ). stands e p q && Y e) ds ≡ (is_indexed ds q.group.column && ((p == q.place) && Y q.group.column))
        → list_any (λ (e : ℕ). stands e p q && Y e) (d ∷ ds) ≡ (is_indexed (d ∷ ds) q.group.column && ((p == q.place) && Y q.group.column))
    by true is rest =
        let here : ((d == q.group.column) && (p == q.place) && Y d) ≡ ((p == q.place) && Y q.group.column) = ap (λ (b : Bool). b && (p == q.place) && Y d) is ∙ ap (λ (e : ℕ). (p == q.place) && Y e) (nat_same d q.group.column is) in
        let known : is_indexed (d ∷ ds) q.group.column ≡ true = ap (λ (b : Bool). b || is_indexed ds q.group.column) is in
        ap (λ (b : Bool). b || list_any (λ (e : ℕ). stands e p q && Y e) ds) here
        ∙ ap (λ (b : Bool). ((p == q.place) && Y q.group.column) || b) rest
        ∙ absorbed (is_indexed ds q.group.column) ((p == q.place) && Y q.group.column)
        ∙ sym (ap (λ (b : Bool). b && ((p == q.place) && Y q.group.column)) known)
    by false is rest =
        let here : ((d == q.group.column) && (p == q.place) && Y d) ≡ false = ap (λ (b : Bool). b && (p == q.place) && Y d) is in
        let known : is_indexed (d ∷ ds) q.group.column ≡ is_indexed ds q.group.column = ap (λ (b : Bool). b || is_indexed ds q.group.column) is in
        ap (λ (b : Bool). b || list_any (λ (e : ℕ). stands e p q && Y e) ds) here
        ∙ rest
        ∙ sym (ap (λ (b : Bool). b && ((p == q.place) && Y q.group.column)) known)

pub comes_is : (columns : List ℕ) (p : ℕ) (o n : Option (List Value)) (q : Slot) → comes columns p o n q ≡ (is_indexed columns q.group.column && ((p == q.place) && (not (same_cell (cell q.group.column o) (cell q.group.column n)) && is_value q.group.value (cell q.group.column n))))
comes_is columns p o n q = any_column (λ (d : ℕ). not (same_cell (cell d o) (cell d n)) && is_value q.group.value (cell d n)) p q columns

pub goes_is : (columns : List ℕ) (p : ℕ) (o n : Option (List Value)) (q : Slot) → goes columns p o n q ≡ (is_indexed columns q.group.column && ((p == q.place) && (not (same_cell (cell q.group.column o) (cell q.group.column n)) && is_value q.group.value (cell q.group.column o))))
goes_is columns p o n q = any_column (λ (d : ℕ). not (same_cell (cell d o) (cell d n)) && is_value q.group.value (cell d o)) p q columns

-- ---- one change

moved : (i s a b : Bool) → (s ≡ true → a ≡ b) → (a ≡ true → b ≡ true → s ≡ true) → (not (i && (not s && a)) && ((i && (not s && b)) || (i && a))) ≡ (i && b)
moved false s a b same alike = refl
moved true true a b same alike = same refl
moved true false true true same alike = alike refl refl
moved true false true false same alike = refl
moved true false false true same alike = refl
moved true false false false same alike = refl

same_alike : (v : Value) (a b : Option Value) → same_cell a b ≡ true → is_value v a ≡ is_value v b
same_alike v None None h = refl
same_alike v None (Some y) h = let never : ⊥ = cc in absurd never
same_alike v (Some x) None h = let never : ⊥ = cc in absurd never
same_alike v (Some x) (Some y) h = ap (λ (z : Value). is_eq (value_cmp z v)) (exact_values x y (equal_of (value_cmp x y) h))

alike_same : (v : Value) (a b : Option Value) → is_value v a ≡ true → is_value v b ≡ true → same_cell a b ≡ true
alike_same v None b h k = let never : ⊥ = cc in absurd never
alike_same v (Some x) None h k = let never : ⊥ = cc in absurd never
alike_same v (Some x) (Some y) h k =
    let left : x ≡ v = exact_values x v (equal_of (value_cmp x v) h) in
    let right : y ≡ v = exact_values y v (equal_of (value_cmp y v) k) in
    ap (λ (z : Value). is_eq (value_cmp z y)) left ∙ ap (λ (z : Value). is_eq (value_cmp v z)) right ∙ ap is_eq (tied_itself values_total v)

at_place : (p : ℕ) (q : Slot) → p ≡ q.place → (p == q.place) ≡ true
at_place p q at = ap (λ (n : ℕ). n == q.place) at ∙ nat_eq_equiv.refl q.place

comes_here : (columns : List ℕ) (p : ℕ) (o n : Option (List Value)) (q : Slot) → p ≡ q.place → comes columns p o n q ≡ (is_indexed columns q.group.column && (not (same_cell (cell q.group.column o) (cell q.group.column n)) && is_value q.group.value (cell q.group.column n)))
comes_here columns p o n q at = comes_is columns p o n q ∙ ap (λ (b : Bool). is_indexed columns q.group.column && (b && (not (same_cell (cell q.group.column o) (cell q.group.column n)) && is_value q.group.value (cell q.group.column n)))) (at_place p q at)

goes_here : (columns : List ℕ) (p : ℕ) (o n : Option (List Value)) (q : Slot) → p ≡ q.place → goes columns p o n q ≡ (is_indexed columns q.group.column && (not (same_cell (cell q.group.column o) (cell q.group.column n)) && is_value q.group.value (cell q.group.column o)))
goes_here columns p o n q at = goes_is columns p o n q ∙ ap (λ (b : Bool). is_indexed columns q.group.column && (b && (not (same_cell (cell q.group.column o) (cell q.group.column n)) && is_value q.group.value (cell q.group.column o)))) (at_place p q at)

nothing_at : (b : Bool) → (b && false) ≡ false
nothing_at true = refl
nothing_at false = refl

none_comes : (columns : List ℕ) (o : Option (List Value)) (ch : Change) (q : Slot) → (ch.place == q.place) ≡ false → comes_with columns o ch q ≡ false
none_comes columns None ch q apart = refl
none_comes columns (Some o) ch q apart =
    comes_is columns ch.place (Some o) ch.row q
    ∙ ap (λ (b : Bool). is_indexed columns q.group.column && (b && (not (same_cell (cell q.group.column (Some o)) (cell q.group.column ch.row)) && is_value q.group.value (cell q.group.column ch.row)))) apart
    ∙ nothing_at (is_indexed columns q.group.column)

none_goes : (columns : List ℕ) (o : Option (List Value)) (ch : Change) (q : Slot) → (ch.place == q.place) ≡ false → goes_with columns o ch q ≡ false
none_goes columns None ch q apart = refl
none_goes columns (Some o) ch q apart =
    goes_is columns ch.place (Some o) ch.row q
    ∙ ap (λ (b : Bool). is_indexed columns q.group.column && (b && (not (same_cell (cell q.group.column (Some o)) (cell q.group.column ch.row)) && is_value q.group.value (cell q.group.column (Some o))))) apart
    ∙ nothing_at (is_indexed columns q.group.column)

-- After a change the slots are those that are due.
single : (columns : List ℕ) (o : Option (List Value)) (ch : Change) (q : Slot) → ch.place ≡ q.place → (not (goes_with columns o ch q) && (comes_with columns o ch q || due columns o q)) ≡ due columns (merged o ch.row) q
single columns None ch q at = refl
single columns (Some o) ch q at =
    ap (λ (b : Bool). not b && (comes columns ch.place (Some o) ch.row q || due columns (Some o) q)) (goes_here columns ch.place (Some o) ch.row q at)
    ∙ ap (λ (b : Bool). not (is_indexed columns q.group.column && (not (same_cell (cell q.group.column (Some o)) (cell q.group.column ch.row)) && is_value q.group.value (cell q.group.column (Some o)))) && (b || due columns (Some o) q)) (comes_here columns ch.place (Some o) ch.row q at)
    ∙ moved (is_indexed columns q.group.column) (same_cell (cell q.group.column (Some o)) (cell q.group.column ch.row)) (is_value q.group.value (cell q.group.column (Some o))) (is_value q.group.value (cell q.group.column ch.row))
    (same_alike q.group.value (cell q.group.column (Some o)) (cell q.group.column ch.row))
    (alike_same q.group.value (cell q.group.column (Some o)) (cell q.group.column ch.row))

-- ---- changes in turn

less_apart : (a b : ℕ) → nat_cmp a b ≡ Less → (b == a) ≡ false
less_apart a b h = by (b == a) refl
  where
    by : (t : Bool) → (b == a) ≡ t → (b == a) ≡ false
    by true is =
        let same : nat_cmp a b ≡ Equal = ap (nat_cmp a) (nat_same b a is) ∙ tied_itself nat_cmp_total a in
        let never : ⊥ = cc in absurd never
    by false is = is

record Quiet (columns : List ℕ) (at : ℕ → Option (List Value)) (L : List Change) (q : Slot) : Type 0 where
  coming : list_any (λ (ch : Change). comes_with columns (at ch.place) ch q) L ≡ false
  going : list_any (λ (ch : Change). goes_with columns (at ch.place) ch q) L ≡ false
  stays : (o : Option (List Value)) → changed L o q.place ≡ o

either : (a b : Bool) → a ≡ false → b ≡ false → (a || b) ≡ false
either a b h k = ap (λ (t : Bool). t || b) h ∙ k

-- Changes at later places leave a place alone.
quiet : (columns : List ℕ) (at : ℕ → Option (List Value)) (L : List Change) (q : Slot) → AllByRecursion (λ (y : ℕ). nat_cmp q.place y ≡ Less) (map (λ (ch : Change). ch.place) L) → Quiet columns at L q
quiet columns at [] q all = record { coming = refl; going = refl; stays = λ o. refl }
quiet columns at (ch ∷ L) q all =
    let rest : Quiet columns at L q = quiet columns at L q all.1 in
    let apart : (ch.place == q.place) ≡ false = less_apart q.place ch.place all.0 in
    record {
      coming = either (comes_with columns (at ch.place) ch q) (list_any (λ (d : Change). comes_with columns (at d.place) d q) L) (none_comes columns (at ch.place) ch q apart) rest.coming;
      going = either (goes_with columns (at ch.place) ch q) (list_any (λ (d : Change). goes_with columns (at d.place) d q) L) (none_goes columns (at ch.place) ch q apart) rest.going;
      stays = λ o. ap (λ (b : Bool). changed L (if b then merged o ch.row else o) q.place) apart ∙ rest.stays o;
    }

no_more : (b : Bool) → (b || false) ≡ b
no_more true = refl
no_more false = refl

-- After changes at rising places the slots are those that are due.
pub exact_after : (columns : List ℕ) (at : ℕ → Option (List Value)) (L : List Change) (q : Slot) → IsStrictlySortedBy nat_cmp (map (λ (ch : Change). ch.place) L)
    → (not (list_any (λ (ch : Change). goes_with columns (at ch.place) ch q) L) && (list_any (λ (ch : Change). comes_with columns (at ch.place) ch q) L || due columns (at q.place) q)) ≡ due columns (changed L (at q.place) q.place) q
exact_after columns at [] q up = refl
exact_after columns at (ch ∷ L) q up = by (ch.place == q.place) refl (exact_after columns at L q (sorted_tail nat_cmp ch.place (map (λ (d : Change). d.place) L) up))
  where
    G : Bool
    G = list_any (λ (d : Change). goes_with columns (at d.place) d q) L

    C : Bool
    C = list_any (λ (d : Change). comes_with columns (at d.place) d q) L

    head : AllByRecursion (λ (y : ℕ). nat_cmp ch.place y ≡ Less) (map (λ (d : Change). d.place) L)
    head = sorted_head nat_cmp ch.place (map (λ (d : Change). d.place) L) up

    by : (b : Bool) → (ch.place == q.place) ≡ b → (not G && (C || due columns (at q.place) q)) ≡ due columns (changed L (at q.place) q.place) q
        → (not (goes_with columns (at ch.place) ch q || G) && ((comes_with columns (at ch.place) ch q || C) || due columns (at q.place) q)) ≡ due columns (changed L (after_change q.place (at q.place) ch) q.place) q
    by true is rest =
        let here : ch.place ≡ q.place = nat_same ch.place q.place is in
        let still : Quiet columns at L q = quiet columns at L q (subst (λ (p : ℕ). AllByRecursion (λ (y : ℕ). nat_cmp p y ≡ Less) (map (λ (d : Change). d.place) L)) here head) in
        let stands_so : changed L (after_change q.place (at q.place) ch) q.place ≡ merged (at q.place) ch.row =
        still.stays (after_change q.place (at q.place) ch) ∙ ap (λ (b : Bool). if b then merged (at q.place) ch.row else at q.place) is in
        ap (λ (b : Bool). not (goes_with columns (at ch.place) ch q || b) && ((comes_with columns (at ch.place) ch q || C) || due columns (at q.place) q)) still.going
        ∙ ap (λ (b : Bool). not (goes_with columns (at ch.place) ch q || false) && ((comes_with columns (at ch.place) ch q || b) || due columns (at q.place) q)) still.coming
        ∙ ap (λ (b : Bool). not b && ((comes_with columns (at ch.place) ch q || false) || due columns (at q.place) q)) (no_more (goes_with columns (at ch.place) ch q))
        ∙ ap (λ (b : Bool). not (goes_with columns (at ch.place) ch q) && (b || due columns (at q.place) q)) (no_more (comes_with columns (at ch.place) ch q))
        ∙ ap (λ (p : ℕ). not (goes_with columns (at p) ch q) && (comes_with columns (at p) ch q || due columns (at q.place) q)) here
        ∙ single columns (at q.place) ch q here
        ∙ ap (λ (o : Option (List Value)). due columns o q) (sym stands_so)
    by false is rest =
        let stands_so : changed L (after_change q.place (at q.place) ch) q.place ≡ changed L (at q.place) q.place =
        ap (λ (b : Bool). changed L (if b then merged (at q.place) ch.row else at q.place) q.place) is in
        ap (λ (b : Bool). not (b || G) && ((comes_with columns (at ch.place) ch q || C) || due columns (at q.place) q)) (none_goes columns (at ch.place) ch q is)
        ∙ ap (λ (b : Bool). not G && ((b || C) || due columns (at q.place) q)) (none_comes columns (at ch.place) ch q is)
        ∙ rest
        ∙ ap (λ (o : Option (List Value)). due columns o q) (sym stands_so)

fresh_here : (columns : List ℕ) (o : Option (List Value)) (ch : Change) (q : Slot) → ch.place ≡ q.place → comes_with columns o ch q ≡ true → due columns o q ≡ false
fresh_here columns None ch q at h = let never : ⊥ = cc in absurd never
fresh_here columns (Some o) ch q at h =
    by (is_indexed columns q.group.column) (same_cell (cell q.group.column (Some o)) (cell q.group.column ch.row)) (is_value q.group.value (cell q.group.column (Some o))) (is_value q.group.value (cell q.group.column ch.row))
    (sym (comes_here columns ch.place (Some o) ch.row q at) ∙ h)
    (alike_same q.group.value (cell q.group.column (Some o)) (cell q.group.column ch.row))
  where
    by : (i s a b : Bool) → (i && (not s && b)) ≡ true → (a ≡ true → b ≡ true → s ≡ true) → (i && a) ≡ false
    by false s a b h alike = refl
    by true s false b h alike = refl
    by true s true false h alike = absurd (last s h)
      where
        last : (s : Bool) → (not s && false) ≡ true → ⊥
        last true e = cc
        last false e = cc
    by true true true true h alike = let never : ⊥ = cc in absurd never
    by true false true true h alike = let two : false ≡ true = alike refl refl in let never : ⊥ = cc in absurd never

-- A slot that comes is not due before.
pub fresh : (columns : List ℕ) (at : ℕ → Option (List Value)) (L : List Change) (q : Slot) → list_any (λ (ch : Change). comes_with columns (at ch.place) ch q) L ≡ true → due columns (at q.place) q ≡ false
fresh columns at [] q h = let never : ⊥ = cc in absurd never
fresh columns at (ch ∷ L) q h = by (comes_with columns (at ch.place) ch q) (ch.place == q.place) refl refl h (fresh columns at L q)
  where
    by : (b t : Bool) → comes_with columns (at ch.place) ch q ≡ b → (ch.place == q.place) ≡ t
        → (comes_with columns (at ch.place) ch q || list_any (λ (d : Change). comes_with columns (at d.place) d q) L) ≡ true
        → (list_any (λ (d : Change). comes_with columns (at d.place) d q) L ≡ true → due columns (at q.place) q ≡ false)
        → due columns (at q.place) q ≡ false
    by true true is here e rest =
        let same : ch.place ≡ q.place = nat_same ch.place q.place here in
        fresh_here columns (at q.place) ch q same (sym (ap (λ (p : ℕ). comes_with columns (at p) ch q) same) ∙ is)
    by true false is here e rest = let none : comes_with columns (at ch.place) ch q ≡ false = none_comes columns (at ch.place) ch q here in let never : ⊥ = cc in absurd never
    by false t is here e rest = rest (sym (ap (λ (b : Bool). b || list_any (λ (d : Change). comes_with columns (at d.place) d q) L) is) ∙ e)

-- ---- one change alone

-- After one change the slots are those that are due.
pub exact_one : (columns : List ℕ) (at : ℕ → Option (List Value)) (ch : Change) (q : Slot)
    → (not (goes_with columns (at ch.place) ch q) && (comes_with columns (at ch.place) ch q || due columns (at q.place) q)) ≡ due columns (after_change q.place (at q.place) ch) q
exact_one columns at ch q = by (ch.place == q.place) refl
  where
    by : (b : Bool) → (ch.place == q.place) ≡ b → (not (goes_with columns (at ch.place) ch q) && (comes_with columns (at ch.place) ch q || due columns (at q.place) q)) ≡ due columns (after_change q.place (at q.place) ch) q
    by true is =
        let here : ch.place ≡ q.place = nat_same ch.place q.place is in
        ap (λ (p : ℕ). not (goes_with columns (at p) ch q) && (comes_with columns (at p) ch q || due columns (at q.place) q)) here
        ∙ single columns (at q.place) ch q here
        ∙ sym (ap (λ (b : Bool). due columns (if b then merged (at q.place) ch.row else at q.place) q) is)
    by false is =
        ap (λ (b : Bool). not b && (comes_with columns (at ch.place) ch q || due columns (at q.place) q)) (none_goes columns (at ch.place) ch q is)
        ∙ ap (λ (b : Bool). b || due columns (at q.place) q) (none_comes columns (at ch.place) ch q is)
        ∙ sym (ap (λ (b : Bool). due columns (if b then merged (at q.place) ch.row else at q.place) q) is)

-- A slot that comes with it is not due before.
pub fresh_one : (columns : List ℕ) (at : ℕ → Option (List Value)) (ch : Change) (q : Slot) → comes_with columns (at ch.place) ch q ≡ true → due columns (at q.place) q ≡ false
fresh_one columns at ch q h = by (ch.place == q.place) refl
  where
    by : (b : Bool) → (ch.place == q.place) ≡ b → due columns (at q.place) q ≡ false
    by true is =
        let here : ch.place ≡ q.place = nat_same ch.place q.place is in
        fresh_here columns (at q.place) ch q here (sym (ap (λ (p : ℕ). comes_with columns (at p) ch q) here) ∙ h)
    by false is = let none : comes_with columns (at ch.place) ch q ≡ false = none_comes columns (at ch.place) ch q is in let never : ⊥ = cc in absurd never

-- ---- a new row

pub nobody_due : (columns : List ℕ) (o : Option (List Value)) (q : Slot) → o ≡ None → due columns o q ≡ false
nobody_due columns o q none = ap (λ (w : Option (List Value)). due columns w q) none ∙ nothing_at (is_indexed columns q.group.column)

pub comes_new : (columns : List ℕ) (p : ℕ) (row : List Value) (q : Slot) (b : Bool) → (p == q.place) ≡ b → comes columns p None (Some row) q ≡ (b && due columns (Some row) q)
comes_new columns p row q true is = comes_here columns p None (Some row) q (nat_same p q.place is)
comes_new columns p row q false is =
    comes_is columns p None (Some row) q
    ∙ ap (λ (b : Bool). is_indexed columns q.group.column && (b && is_value q.group.value (cell q.group.column (Some row)))) is
    ∙ nothing_at (is_indexed columns q.group.column)

-- A slot that comes with a new row is not due before.
pub fresh_new : (columns : List ℕ) (at : ℕ → Option (List Value)) (p : ℕ) (row : List Value) (q : Slot) → at p ≡ None → comes columns p None (Some row) q ≡ true → due columns (at q.place) q ≡ false
fresh_new columns at p row q free h = by (p == q.place) refl
  where
    by : (b : Bool) → (p == q.place) ≡ b → due columns (at q.place) q ≡ false
    by true is = nobody_due columns (at q.place) q (ap at (sym (nat_same p q.place is)) ∙ free)
    by false is = let none : comes columns p None (Some row) q ≡ false = comes_new columns p row q false is in let never : ⊥ = cc in absurd never

-- With a new row the slots are those that are due.
pub exact_new : (columns : List ℕ) (at : ℕ → Option (List Value)) (p : ℕ) (row : List Value) (q : Slot) → at p ≡ None
    → (comes columns p None (Some row) q || due columns (at q.place) q) ≡ due columns (cond (is_eq (nat_cmp p q.place)) (Some row) (at q.place)) q
exact_new columns at p row q free = by (p == q.place) refl
  where
    by : (b : Bool) → (p == q.place) ≡ b → (comes columns p None (Some row) q || due columns (at q.place) q) ≡ due columns (cond (is_eq (nat_cmp p q.place)) (Some row) (at q.place)) q
    by true is =
        ap (λ (b : Bool). b || due columns (at q.place) q) (comes_new columns p row q true is)
        ∙ ap (λ (b : Bool). due columns (Some row) q || b) (nobody_due columns (at q.place) q (ap at (sym (nat_same p q.place is)) ∙ free))
        ∙ no_more (due columns (Some row) q)
        ∙ sym (ap (λ (b : Bool). due columns (cond b (Some row) (at q.place)) q) (unsigned_tied p q.place ∙ is))
    by false is =
        ap (λ (b : Bool). b || due columns (at q.place) q) (comes_new columns p row q false is)
        ∙ sym (ap (λ (b : Bool). due columns (cond b (Some row) (at q.place)) q) (unsigned_tied p q.place ∙ is))

-- ---- a row less

left_out : (b : Bool) → (not b && b) ≡ false
left_out true = refl
left_out false = refl

-- Without a row the slots are those that are due.
pub exact_gone : (columns : List ℕ) (at : ℕ → Option (List Value)) (p : ℕ) (row : List Value) (q : Slot) → at p ≡ Some row
    → (not (comes columns p None (Some row) q) && due columns (at q.place) q) ≡ due columns (if p == q.place then merged (at q.place) None else at q.place) q
exact_gone columns at p row q stood = by (p == q.place) refl
  where
    by : (b : Bool) → (p == q.place) ≡ b → (not (comes columns p None (Some row) q) && due columns (at q.place) q) ≡ due columns (if p == q.place then merged (at q.place) None else at q.place) q
    by true is =
        let here : at q.place ≡ Some row = ap at (sym (nat_same p q.place is)) ∙ stood in
        ap (λ (b : Bool). not b && due columns (at q.place) q) (comes_new columns p row q true is)
        ∙ ap (λ (o : Option (List Value)). not (due columns (Some row) q) && due columns o q) here
        ∙ left_out (due columns (Some row) q)
        ∙ sym (nothing_at (is_indexed columns q.group.column))
        ∙ sym (ap (λ (o : Option (List Value)). due columns (merged o None) q) here)
        ∙ sym (ap (λ (b : Bool). due columns (if b then merged (at q.place) None else at q.place) q) is)
    by false is =
        ap (λ (b : Bool). not b && due columns (at q.place) q) (comes_new columns p row q false is)
        ∙ sym (ap (λ (b : Bool). due columns (if b then merged (at q.place) None else at q.place) q) is)

-- Where no row stood nothing changes.
pub nobody_gone : (at : ℕ → Option (List Value)) (p k : ℕ) → at p ≡ None → at k ≡ (if p == k then merged (at k) None else at k)
nobody_gone at p k none = by (p == k) refl
  where
    by : (b : Bool) → (p == k) ≡ b → at k ≡ (if p == k then merged (at k) None else at k)
    by true is =
        let here : at k ≡ None = ap at (sym (nat_same p k is)) ∙ none in
        here ∙ sym (ap (λ (o : Option (List Value)). merged o None) here) ∙ sym (ap (λ (b : Bool). if b then merged (at k) None else at k) is)
    by false is = sym (ap (λ (b : Bool). if b then merged (at k) None else at k) is)

-- After one change no row stands where none stood.
pub none_after : (p : ℕ) (o : Option (List Value)) (ch : Change) → o ≡ None → after_change p o ch ≡ None
none_after p o ch none = ap (λ (w : Option (List Value)). after_change p w ch) none ∙ by (ch.place == p)
  where
    by : (b : Bool) → (if b then merged None ch.row else None) ≡ None
    by true = refl
    by false = refl

-- Where no row stands none comes by changes.
pub changed_none : (L : List Change) (p : ℕ) → changed L None p ≡ None
changed_none [] p = refl
changed_none (ch ∷ L) p = by (ch.place == p) refl (changed_none L p)
  where
    by : (b : Bool) → (ch.place == p) ≡ b → changed L None p ≡ None → changed L (after_change p None ch) p ≡ None
    by true is rest = ap (λ (b : Bool). changed L (if b then None else None) p) is ∙ rest
    by false is rest = ap (λ (b : Bool). changed L (if b then None else None) p) is ∙ rest
