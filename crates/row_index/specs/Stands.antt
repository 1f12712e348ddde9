-- Stands: places with the rows that stand there, or stood there.
use Rattle.std.specs.Prelude.{ℕ, List, [], ◌∷◌, ◌++◌, map, Option, option_map}
use Rattle.std.specs.List.{filter_map}
use Rattle.std.specs.List.Sorted.{IsStrictlySortedBy}
use Rattle.std.specs.Ordering.{nat_cmp}
use Rattle.okws_base.specs.declared.value.Value.{Value}
use Rattle.row_index.specs.declared.placed.Stand.{Stand}

-- Rows at their places as contracts see them: each row with its place, by rising places, and the place that the next row comes to.
pub record Placed : Type 0 where
  pub entries : List (ℕ × List Value)
  pub next : ℕ

-- The row of a stand with its place, if it has one.
abbrev pub entry_of : Stand → Option (ℕ × List Value)
entry_of s = option_map (λ (row : List Value). (s.place, row)) s.row

-- The rows that stand, with their places.
abbrev pub standing : List Stand → List (ℕ × List Value)
standing stands = filter_map entry_of stands

-- The places of stands.
abbrev pub places_of : List Stand → List ℕ
places_of stands = map (λ (s : Stand). s.place) stands

-- The places rise, and the next one is above them.
abbrev pub IsRising : List Stand → ℕ → Type 0
IsRising stands next = IsStrictlySortedBy nat_cmp (places_of stands ++ next ∷ [])
