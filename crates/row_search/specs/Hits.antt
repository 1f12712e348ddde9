-- Hits: the rows that meet conditions, lent, with their places.
use Rattle.std.specs.Prelude.{ℕ, Bool, List, Option, Some, None, if◌then◌else◌, map, option_map}
use Rattle.std.specs.List.{filter_map}
use Rattle.okws_base.specs.declared.value.Value.{Value}
use Rattle.row_search.specs.declared.finding.Hit.{Hit}

-- The rows of hits.
abbrev pub lent : List Hit → List (List Value)
lent hits = map (λ (h : Hit). h.row.now) hits

-- The places of hits with their rows.
abbrev pub entries_of : List Hit → List (ℕ × List Value)
entries_of hits = map (λ (h : Hit). (h.place, h.row.now)) hits

-- The row that may be there, if it passes a test.
abbrev pub passing : (List Value → Bool) → Option (List Value) → Option (List Value)
passing test None = None
passing test (Some row) = if test row then Some row else None

-- A place with the row that may be there, if it passes a test.
abbrev pub entry_at : (List Value → Bool) → ℕ → Option (List Value) → Option (ℕ × List Value)
entry_at test p row = option_map (λ (r : List Value). (p, r)) (passing test row)

-- The places of these whose rows pass a test, with their rows.
abbrev pub entries_at : (List Value → Bool) → (ℕ → Option (List Value)) → List ℕ → List (ℕ × List Value)
entries_at test at places = filter_map (λ (p : ℕ). entry_at test p (at p)) places
