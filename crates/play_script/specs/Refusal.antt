-- What is printed where a file is refused.
use Rattle.std.specs.Prelude.{ℕ, List, [], ◌∷◌, ◌++◌, codes, decimal}

-- `refused: config line L rule R` and LF.
abbrev pub config_refused : ℕ → ℕ → List ℕ
config_refused line rule = codes "refused: config line " ++ decimal line ++ codes " rule " ++ decimal rule ++ 10 ∷ []

-- `refused: script line L rule R` and LF.
abbrev pub script_refused : ℕ → ℕ → List ℕ
script_refused line rule = codes "refused: script line " ++ decimal line ++ codes " rule " ++ decimal rule ++ 10 ∷ []
