-- What a pin of an answer is, and what it keeps.
use Rattle.std.specs.Prelude.{◌≡◌, ℕ, Bool, true, false, List, Option, filter, map}
use Rattle.std.specs.List.Sorted.{IsStrictlySortedBy}
use Rattle.std.specs.Map.{keys_of}
use Rattle.std.specs.Ordering.{nat_cmp, ordering_then}
use Rattle.std.specs.declared.cmp.Ordering.{Ordering}
use Rattle.okws_base.specs.Value.{value_cmp}
use Rattle.okws_base.specs.declared.value.Value.{Value}
use Rattle.okws_plan.specs.Meaning.{at_column, meets_all, hits, ordered, limited}
use Rattle.okws_plan.specs.declared.statement.Condition.{Condition}
use Rattle.row_index.specs.Places.{row_at}
use Rattle.row_search.specs.Places.{places_where, passes_at, rows_of}
use Rattle.row_index.specs.Changes.{row_or}

-- A pin as contracts see it: how many columns its answer has, its rows, and whether it was found.
pub record Pinning : Type 0 where
  pub width : ℕ
  pub rows : List (List Value)
  pub found : Bool

-- The hits, stably ordered, the first n.
abbrev pub due : List Value → List Condition → Option ℕ → Option ℕ → List (ℕ × List Value) → List (List Value)
due args conditions order limit entries = limited limit (ordered order (hits args conditions (rows_of entries)))

-- Places by their rows in a column, and then by themselves.
abbrev pub place_cmp : (ℕ → List Value) → ℕ → ℕ → ℕ → Ordering
place_cmp row c p q = ordering_then (value_cmp (at_column (row p) c) (at_column (row q) c)) (nat_cmp p q)

-- Places of which those are kept whose rows meet the conditions are the places of all rows that do.
pub record AreTested (args : List Value) (conditions : List Condition) (entries : List (ℕ × List Value)) (places : List ℕ) : Type 0 where
  pub rising : IsStrictlySortedBy nat_cmp (keys_of entries)
  pub met : filter (λ (p : ℕ). passes_at (meets_all args conditions) (row_at entries p)) places ≡ places_where (meets_all args conditions) entries

-- The places are to be tested until the answer was found, and then are those of its rows.
abbrev pub Keeps : Bool → List Value → List Condition → Option ℕ → Option ℕ → List (ℕ × List Value) → List ℕ → Type 0
Keeps false args conditions order limit entries places = AreTested args conditions entries places
Keeps true args conditions order limit entries places = map (row_or entries) places ≡ due args conditions order limit entries
