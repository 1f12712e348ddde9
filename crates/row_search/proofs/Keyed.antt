-- Rows that come unless their KEY value is taken, and rows that leave by a value.
use Rattle.std.proofs.Common.{◌≡◌, ◌∙◌, ℕ, Bool, true, false, List, [], ◌∷◌, ◌++◌, length, refl, ap, Some, None}
use Rattle.std.specs.Prelude.{not, ◌==◌, ◌&&◌, filter, if◌then◌else◌}
use Rattle.std.specs.List.Sorted.{IsStrictlySortedBy}
use Rattle.std.specs.Ordering.{nat_cmp}
use Rattle.std.specs.Map.{keys_of}
use Rattle.std.proofs.lemmas.List.{map-append}
use Rattle.okws_base.specs.Value.{value_eq}
use Rattle.okws_base.specs.declared.value.Value.{Value}
use Rattle.okws_plan.specs.Meaning.{at_column, operand, meets, meets_all, inserted, is_taken_at}
use Rattle.okws_plan.specs.declared.statement.Answer.TheVariants.{Changed, Duplicate}
use Rattle.okws_plan.specs.declared.statement.Condition.{Condition}
use Rattle.row_index.specs.Places.{row_at}
use Rattle.row_index.specs.Stands.{Placed}
use Rattle.row_index.specs.Slots.{places_in}
use Rattle.row_index.specs.Index.{is_indexed, is_value, IsIndex}
use Rattle.row_index.specs.Changes.{changed, removals_at}
use Rattle.row_index.specs.declared.changing.Change.{Change}
use Rattle.row_index.specs.declared.slots.Slots.{Slots}
use Rattle.row_search.specs.Places.{places_where, rows_of, is_equality, leading}
use Rattle.row_search.proofs.Entries.{any_rows, value_eq_is, listed_changes, removed_rows}
use Rattle.row_search.proofs.Found.{listed, any_alike, leading_holds, and_true}

-- What is told and what is left where a row came, or was taken.
pub told_is : (came taken : Bool) (rows now : List (List Value)) (new : List Value) → came ≡ not taken → now ≡ (if came then rows ++ new ∷ [] else rows) → ((if came then Changed 1 else Duplicate), now) ≡ inserted taken rows new
told_is true true rows now new is left = let never : ⊥ = cc in absurd never
told_is true false rows now new is left = ap (λ (r : List (List Value)). (Changed 1, r)) left
told_is false true rows now new is left = ap (λ (r : List (List Value)). (Duplicate, r)) left
told_is false false rows now new is left = let never : ⊥ = cc in absurd never

twice : (b : Bool) → b ≡ not (not b)
twice true = refl
twice false = refl

-- A value is new where there are no places in its slots.
pub new_is : (columns : List ℕ) (rows : List (ℕ × List Value)) (slots : Slots) (own : ℕ) (new : List Value) → IsIndex columns rows slots → IsStrictlySortedBy nat_cmp (keys_of rows) → IsStrictlySortedBy nat_cmp (places_in own (at_column new own) slots) → is_indexed columns own ≡ true
    → (length (places_in own (at_column new own) slots) == 0) ≡ not (is_taken_at (Some own) (rows_of rows) new)
new_is columns rows slots own new index up rise has =
    let v : Value = at_column new own in
    let there : List Value → Bool = λ (row : List Value). is_value v (Some (at_column row own)) in
    twice (length (places_in own v slots) == 0)
    ∙ ap not
    (ap (λ (ps : List ℕ). not (length ps == 0)) (listed columns rows slots own v index up rise has)
    ∙ any_rows there rows
    ∙ any_alike there (λ (row : List Value). value_eq (at_column row own) v) (rows_of rows) (λ (row : List Value). value_eq_is (at_column row own) v))

removals_where : (test : List Value → Bool) (es : List (ℕ × List Value)) → removals_at (places_where test es) ≡ listed_changes (λ _. None) test es
removals_where test [] = refl
removals_where test (e ∷ es) = by (test e.1) refl (removals_where test es)
  where
    by : (b : Bool) → test e.1 ≡ b → removals_at (places_where test es) ≡ listed_changes (λ _. None) test es → removals_at (places_where test (e ∷ es)) ≡ listed_changes (λ _. None) test (e ∷ es)
    by true is rest = rw is (ap (λ (more : List Change). record { place = e.0; row = None } ∷ more) rest)
    by false is rest = rw is rest

-- The rows that are left once those that pass a test were taken away.
pub left_rows : (test : List Value → Bool) (es now : List (ℕ × List Value)) → IsStrictlySortedBy nat_cmp (keys_of es) → IsStrictlySortedBy nat_cmp (keys_of now) → ((p : ℕ) → row_at now p ≡ changed (removals_at (places_where test es)) (row_at es p) p) → rows_of now ≡ filter (λ (row : List Value). not (test row)) (rows_of es)
left_rows test es now up rise left = removed_rows test es now up rise (λ (p : ℕ). left p ∙ ap (λ (changes : List Change). changed changes (row_at es p) p) (removals_where test es))

-- The rows that meet the only condition, by `=` on a column with an index, are those that have its value.
pub sole_met : (columns : List ℕ) (args : List Value) (conditions : List Condition) (c : Condition) → conditions ≡ c ∷ [] → (is_equality c.comparison && is_indexed columns c.column) ≡ true → (row : List Value) → meets_all args conditions row ≡ is_value (operand args c.operand) (Some (at_column row c.column))
sole_met columns args conditions c one led row =
    let leads : leading columns (c ∷ []) ≡ Some c = rw led refl in
    ap (λ (cs : List Condition). meets_all args cs row) one
    ∙ and_true (meets args c row)
    ∙ leading_holds columns args (c ∷ []) c row leads
