-- The lines of a script, and the words that follow a directive.
use Rattle.std.specs.Prelude.{ℕ, List, [], ◌∷◌, Option, Some, None}
use Rattle.std.specs.Str.Lines.{lines}

-- The lines of a script are what LFs part; one CR directly before an LF is dropped, and the last line may lack its LF.
abbrev pub script_lines : List ℕ → List (List ℕ)
script_lines text = lines text

-- The words of a list that has two words, and no bytes for a third one, or three words.
abbrev pub two_or_three_words : List (List ℕ) → Option (List ℕ × List ℕ × List ℕ)
two_or_three_words (first ∷ second ∷ []) = Some (first, second, [])
two_or_three_words (first ∷ second ∷ third ∷ []) = Some (first, second, third)
two_or_three_words _ = None
