-- Words as users write them.
use Rattle.std.specs.Prelude.{◌≢◌, ℕ, List, slice_index}

-- A word that doesn't begin with a hyphen (45).
abbrev pub IsPlainWord : List ℕ → Type 0
IsPlainWord word = slice_index word 0 ≢ 45
