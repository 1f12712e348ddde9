-- Hits are the rows that pass a test.
use Rattle.std.proofs.Common.{◌≡◌, ◌∙◌, ℕ, Bool, true, false, List, [], ◌∷◌, refl, sym, ap, Some, None}
use Rattle.std.specs.Prelude.{filter, map, ◌&&◌}
use Rattle.std.specs.Ordering.{nat_cmp}
use Rattle.std.specs.List.Sorted.{IsStrictlySortedBy}
use Rattle.std.specs.Map.{keys_of}
use Rattle.std.specs.declared.option.Option.{Option}
use Rattle.okws_base.specs.Runs.{Each}
use Rattle.okws_base.specs.declared.value.Value.{Value}
use Rattle.okws_plan.specs.Meaning.{at_column, operand, meets, meets_all}
use Rattle.okws_plan.specs.declared.statement.Condition.{Condition}
use Rattle.row_index.specs.Places.{row_at}
use Rattle.row_index.proofs.Stood.{each_here}
use Rattle.row_index.specs.Slots.{places_in}
use Rattle.row_index.specs.Index.{is_value, IsIndex}
use Rattle.row_search.specs.Places.{places_where, rows_of, leading, left_of}
use Rattle.row_index.specs.Changes.{changes_to}
use Rattle.row_search.specs.Hits.{lent, entries_of, entries_at}
use Rattle.row_index.specs.declared.changing.Change.{Change}
use Rattle.row_search.specs.declared.finding.Hit.{Hit}
use Rattle.row_index.specs.declared.slots.Slots.{Slots}
use Rattle.row_search.proofs.Found.{candidates_are, leading_holds, met_leading, sole_leading}

-- Of the places that pass one test those whose rows pass the rest of a narrower one, with their rows, are the entries that pass this.
narrowed_entries : (at : ℕ → Option (List Value)) (holds rest meets : List Value → Bool) (es : List (ℕ × List Value)) → Each (λ (e : ℕ × List Value). at e.0 ≡ Some e.1) es → ((row : List Value) → meets row ≡ (holds row && rest row))
    → entries_at rest at (places_where holds es) ≡ filter (λ (e : ℕ × List Value). meets e.1) es
narrowed_entries at holds rest meets [] all both = refl
narrowed_entries at holds rest meets (e ∷ es) all both = by (holds e.1) (rest e.1) refl refl (narrowed_entries at holds rest meets es all.1 both)
  where
    by : (h r : Bool) → holds e.1 ≡ h → rest e.1 ≡ r → entries_at rest at (places_where holds es) ≡ filter (λ (e : ℕ × List Value). meets e.1) es
        → entries_at rest at (places_where holds (e ∷ es)) ≡ filter (λ (e : ℕ × List Value). meets e.1) (e ∷ es)
    by true true has is more = rw (both e.1, has, is, all.0, is) (ap (λ (list : List (ℕ × List Value)). e ∷ list) more)
    by true false has is more = rw (both e.1, has, is, all.0, is) more
    by false r has is more = rw (both e.1, has) more

only_if : (h m : Bool) → (m ≡ true → h ≡ true) → m ≡ (h && m)
only_if true m by = refl
only_if false true by = sym (by refl)
only_if false false by = refl

-- A row meets all conditions where it has what the leading one compares with, and meets those that are left.
left_met : (columns : List ℕ) (args : List Value) (conditions : List Condition) (c : Condition) → leading columns conditions ≡ Some c → (row : List Value) → meets_all args conditions row ≡ (is_value (operand args c.operand) (Some (at_column row c.column)) && meets_all args (left_of conditions) row)
left_met columns args [] c h row = let never : ⊥ = cc in absurd never
left_met columns args (d ∷ []) c h row =
    let same : d ≡ c = sole_leading columns d c h in
    ap (λ (b : Bool). b && true) (ap (λ (k : Condition). meets args k row) same ∙ leading_holds columns args (d ∷ []) c row h)
left_met columns args (d ∷ e ∷ more) c h row =
    only_if (is_value (operand args c.operand) (Some (at_column row c.column))) (meets_all args (d ∷ e ∷ more) row) (met_leading columns args (d ∷ e ∷ more) c h row)

-- The candidates that meet the conditions that are left, with their rows, are all entries that meet all conditions.
pub found_entries : (columns : List ℕ) (rows : List (ℕ × List Value)) (slots : Slots) (args : List Value) (conditions : List Condition) (c : Condition) → IsIndex columns rows slots → IsStrictlySortedBy nat_cmp (keys_of rows) → IsStrictlySortedBy nat_cmp (places_in c.column (operand args c.operand) slots) → leading columns conditions ≡ Some c
    → entries_at (meets_all args (left_of conditions)) (λ (p : ℕ). row_at rows p) (places_in c.column (operand args c.operand) slots) ≡ filter (λ (e : ℕ × List Value). meets_all args conditions e.1) rows
found_entries columns rows slots args conditions c index up rise h =
    ap (entries_at (meets_all args (left_of conditions)) (λ (p : ℕ). row_at rows p)) (candidates_are columns rows slots args conditions c index up rise h)
    ∙ narrowed_entries (λ (p : ℕ). row_at rows p) (λ (row : List Value). is_value (operand args c.operand) (Some (at_column row c.column))) (meets_all args (left_of conditions)) (meets_all args conditions) rows
    (each_here rows up)
    (left_met columns args conditions c h)

-- The rows of hits are those of their entries.
pub lent_are : (hits : List Hit) → lent hits ≡ rows_of (entries_of hits)
lent_are [] = refl
lent_are (h ∷ hits) = ap (λ (more : List (List Value)). h.row.now ∷ more) (lent_are hits)

-- To take hits out is a change for each of their entries.
pub removals_are : (hits : List Hit) → map {B = Change} (λ (h : Hit). record { place = h.place; row = None }) hits ≡ changes_to (λ _. None) (entries_of hits)
removals_are [] = refl
removals_are (h ∷ hits) = ap (λ (more : List Change). record { place = h.place; row = None } ∷ more) (removals_are hits)

-- The places of hits are those of their entries.
pub places_are : (hits : List Hit) → map (λ (h : Hit). h.place) hits ≡ map (λ (e : ℕ × List Value). e.0) (entries_of hits)
places_are [] = refl
places_are (h ∷ hits) = ap (λ (more : List ℕ). h.place ∷ more) (places_are hits)
