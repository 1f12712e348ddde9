-- Slots of the column that is named.
use Rattle.std.proofs.Common.{◌≡◌, ◌∙◌, ℕ, Bool, true, false, cond, List, refl, ap, sym, Some, None}
use Rattle.std.specs.Prelude.{◌||◌, ◌&&◌, ◌==◌, not, IfSome}
use Rattle.std.specs.Ordering.{is_eq, nat_cmp}
use Rattle.std.specs.declared.option.Option.{Option}
use Rattle.okws_base.specs.Value.{value_cmp}
use Rattle.okws_base.specs.declared.value.Value.{Value}
use Rattle.okws_plan.specs.Meaning.{at_column}
use Rattle.row_index.specs.Slots.{slot_cmp}
use Rattle.row_index.specs.Index.{is_indexed, cell, is_value, due}
use Rattle.row_index.specs.Changes.{stands, comes, comes_at, is_key}
use Rattle.row_index.specs.declared.slot.Slot.{Slot}
use Rattle.row_index.proofs.Bools.{and_first, and_rest, and_both}
use Rattle.row_index.proofs.Moved.{nat_same, slot_is, comes_new, fresh_new, exact_new}

-- The slot of a row for a column that is named is the one that is named.
pub named : (key : Option ℕ) (d p : ℕ) (row : List Value) (q : Slot) → is_key key d ≡ true → (stands d p q && is_value q.group.value (Some (at_column row d))) ≡ true → comes_at key p row q ≡ true
named key d p row q is h =
    let standing : stands d p q ≡ true = and_first (stands d p q) (is_value q.group.value (Some (at_column row d))) h in
    let same : d ≡ q.group.column = nat_same d q.group.column (and_first (d == q.group.column) (p == q.place) standing) in
    let here : (p == q.place) ≡ true = and_rest (d == q.group.column) (p == q.place) standing in
    let value : is_value q.group.value (Some (at_column row d)) ≡ true = and_rest (stands d p q) (is_value q.group.value (Some (at_column row d))) h in
    and_both (is_key key q.group.column) ((p == q.place) && is_value q.group.value (cell q.group.column (Some row)))
    (sym (ap (is_key key) same) ∙ is)
    (and_both (p == q.place) (is_value q.group.value (cell q.group.column (Some row))) here (sym (ap (λ (c : ℕ). is_value q.group.value (cell c (Some row))) same) ∙ value))

-- A slot that is named comes with its row, where its column has an index.
pub named_comes : (columns : List ℕ) (key : Option ℕ) (p : ℕ) (row : List Value) (q : Slot) → IfSome key (λ k. is_indexed columns k ≡ true) → comes_at key p row q ≡ true → comes columns p None (Some row) q ≡ true
named_comes columns None p row q own h = let never : ⊥ = cc in absurd never
named_comes columns (Some k) p row q own h =
    let same : k ≡ q.group.column = nat_same k q.group.column (and_first (k == q.group.column) ((p == q.place) && is_value q.group.value (cell q.group.column (Some row))) h) in
    let rest : ((p == q.place) && is_value q.group.value (cell q.group.column (Some row))) ≡ true = and_rest (k == q.group.column) ((p == q.place) && is_value q.group.value (cell q.group.column (Some row))) h in
    let here : (p == q.place) ≡ true = and_first (p == q.place) (is_value q.group.value (cell q.group.column (Some row))) rest in
    comes_new columns p row q true here
    ∙ and_both (is_indexed columns q.group.column) (is_value q.group.value (cell q.group.column (Some row)))
    (sym (ap (is_indexed columns) same) ∙ own)
    (and_rest (p == q.place) (is_value q.group.value (cell q.group.column (Some row))) rest)

grouped : (v c p : Bool) → ((c && p) && v) ≡ (c && (p && v))
grouped v true p = refl
grouped v false p = refl

same_value : (k : ℕ) (p : ℕ) (row : List Value) (q : Slot) (b : Bool) → (k == q.group.column) ≡ b → ((k == q.group.column) && ((p == q.place) && is_eq (value_cmp (at_column row k) q.group.value))) ≡ comes_at (Some k) p row q
same_value k p row q true is = ap (λ (c : ℕ). (k == q.group.column) && ((p == q.place) && is_eq (value_cmp (at_column row c) q.group.value))) (nat_same k q.group.column is)
same_value k p row q false is =
    ap (λ (b : Bool). b && ((p == q.place) && is_eq (value_cmp (at_column row k) q.group.value))) is
    ∙ sym (ap (λ (b : Bool). b && ((p == q.place) && is_value q.group.value (cell q.group.column (Some row)))) is)

-- The slot that is named is the one of the row's value in this column.
pub named_is : (k p : ℕ) (row : List Value) (q : Slot) → is_eq (slot_cmp (record { group = record { column = k; value = at_column row k }; place = p }) q) ≡ comes_at (Some k) p row q
named_is k p row q =
    slot_is k p (at_column row k) q
    ∙ grouped (is_eq (value_cmp (at_column row k) q.group.value)) (k == q.group.column) (p == q.place)
    ∙ same_value k p row q (k == q.group.column) refl

kept_first : (part A K now : Bool) → (part ≡ true → A ≡ true) → (A || (part || K)) ≡ (A || K)
kept_first part true K now more = refl
kept_first true false K now more = let never : ⊥ = (let all : false ≡ true = more refl in cc) in absurd never
kept_first false false K now more = refl

-- With a new row, of which the slot that is named was there, the slots are those that are due.
pub exact_with : (columns : List ℕ) (key : Option ℕ) (at : ℕ → Option (List Value)) (p : ℕ) (row : List Value) (q : Slot) → at p ≡ None → IfSome key (λ k. is_indexed columns k ≡ true)
    → (comes columns p None (Some row) q || (comes_at key p row q || due columns (at q.place) q)) ≡ due columns (cond (is_eq (nat_cmp p q.place)) (Some row) (at q.place)) q
exact_with columns key at p row q free own =
    kept_first (comes_at key p row q) (comes columns p None (Some row) q) (due columns (at q.place) q) true (named_comes columns key p row q own)
    ∙ exact_new columns at p row q free

taken_again : (part A K : Bool) → (part ≡ true → A ≡ true) → (A ≡ true → K ≡ false) → (not A && (part || K)) ≡ K
taken_again part true K more fresh = sym (fresh refl)
taken_again true false K more fresh = let never : ⊥ = (let all : false ≡ true = more refl in cc) in absurd never
taken_again false false K more fresh = refl

-- Without it again they are those that were due.
pub exact_without : (columns : List ℕ) (key : Option ℕ) (at : ℕ → Option (List Value)) (p : ℕ) (row : List Value) (q : Slot) → at p ≡ None → IfSome key (λ k. is_indexed columns k ≡ true)
    → (not (comes columns p None (Some row) q) && (comes_at key p row q || due columns (at q.place) q)) ≡ due columns (at q.place) q
exact_without columns key at p row q free own =
    taken_again (comes_at key p row q) (comes columns p None (Some row) q) (due columns (at q.place) q) (named_comes columns key p row q own) (fresh_new columns at p row q free)
