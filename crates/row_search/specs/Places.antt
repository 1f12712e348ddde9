-- Rows at their places of insertion. The rows of a table are pairs of a place and a row, by ascending places.
use Rattle.std.specs.Prelude.{◌≡◌, ℕ, ◌≤◌, Bool, true, false, ◌&&◌, List, [], ◌∷◌, length, map, filter, find, Option, Some, None}
use Rattle.std.specs.Ordering.{nat_cmp}
use Rattle.std.specs.Map.{keys_of}
use Rattle.std.specs.List.Sorted.{IsStrictlySortedBy}
use Rattle.okws_base.specs.declared.value.Value.{Value}
use Rattle.okws_plan.specs.Meaning.{hits}
use Rattle.okws_plan.specs.declared.statement.Condition.{Condition}
use Rattle.okws_plan.specs.declared.statement.Comparison.{Comparison}
use Rattle.okws_plan.specs.declared.statement.Comparison.TheVariants as comparison
use Rattle.row_index.specs.Places.{row_at}
use Rattle.row_index.specs.Index.{is_indexed, IsIndex}
use Rattle.row_index.specs.declared.slots.Slots.{Slots}

-- The rows of a table as contracts see them: the columns that have an index, and each row with its place.
pub record Indexed : Type 0 where
  pub columns : List ℕ
  pub entries : List (ℕ × List Value)

-- The rows, in order of insertion.
abbrev pub rows_of : List (ℕ × List Value) → List (List Value)
rows_of entries = map (λ (e : ℕ × List Value). e.1) entries

-- The places of the rows that pass a test, ascending.
abbrev pub places_where : (List Value → Bool) → List (ℕ × List Value) → List ℕ
places_where test entries = map (λ (e : ℕ × List Value). e.0) (filter (λ (e : ℕ × List Value). test e.1) entries)

-- What always holds of a table's rows: their places rise, the slots are an index of them, and no row has the next place or a later one.
pub record IsSound (columns : List ℕ) (rows : List (ℕ × List Value)) (next : ℕ) (slots : Slots) : Type 0 where
  pub rising : IsStrictlySortedBy nat_cmp (keys_of rows)
  pub index : IsIndex columns rows slots
  pub free : (p : ℕ) → next ≤ p → row_at rows p ≡ None

-- The comparison is `=`.
abbrev pub is_equality : Comparison → Bool
is_equality comparison.Equal = true
is_equality comparison.Differs = false
is_equality comparison.Below = false
is_equality comparison.AtMost = false
is_equality comparison.Above = false
is_equality comparison.AtLeast = false

-- The condition by which rows are looked up: the first that compares a column that has an index by `=`.
abbrev pub leading : List ℕ → List Condition → Option Condition
leading columns conditions = find (λ (c : Condition). is_equality c.comparison && is_indexed columns c.column) conditions

-- The conditions that are left to test on rows that were looked up: none where there is but one.
abbrev pub left_of : List Condition → List Condition
left_of [] = []
left_of (c ∷ []) = []
left_of (c ∷ d ∷ conditions) = c ∷ d ∷ conditions

-- How many rows are tested: those that meet the condition by which rows are looked up, or all where there is none.
abbrev pub tests_by : Option Condition → List Value → List (List Value) → ℕ
tests_by None args rows = length rows
tests_by (Some c) args rows = length (hits args (c ∷ []) rows)

-- How many rows are tested to find those that meet the conditions.
abbrev pub tests : List ℕ → List Value → List Condition → List (List Value) → ℕ
tests columns args conditions rows = tests_by (leading columns conditions) args rows

-- A row is there, and passes a test.
abbrev pub passes_at : (List Value → Bool) → Option (List Value) → Bool
passes_at test None = false
passes_at test (Some row) = test row
