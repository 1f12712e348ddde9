-- The entries as text.
use Rattle.std.specs.Prelude.{ℕ, ℤ, List, [], ◌∷◌, ◌++◌, Option, Some, None, option_map, option_and_then}
use Rattle.std.specs.Fmt.{signed_decimal}
use Rattle.okws_base.specs.declared.value.Value.{Value}
use Rattle.okws_base.specs.declared.value.Value.TheVariants.{Int, Text}

-- The number and the text of a row that is one INT and one TEXT.
abbrev pub entry : List Value → Option (ℤ × List ℕ)
entry (Int id ∷ Text who ∷ []) = Some (id, who)
entry _ = None

-- The line `ID WHO`.
abbrev pub line : ℤ → List ℕ → List ℕ
line id who = signed_decimal id ++ 32 ∷ (who ++ 10 ∷ [])

-- The lines of rows, where each is one INT and one TEXT.
abbrev pub lines : List (List Value) → Option (List ℕ)
lines [] = Some []
lines (row ∷ more) = option_and_then (λ (e : ℤ × List ℕ). option_map (λ rest. line e.0 e.1 ++ rest) (lines more)) (entry row)
