-- What is issued to an incarnation.
use Rattle.std.specs.Prelude.{ℕ, List}
use Rattle.frame_codec.specs.declared.frame.Issued.{Issued}
use Rattle.token_core.specs.Token.{token_of}

-- What is issued to incarnation k of s at proxy p under the seed.
abbrev pub issued : List ℕ → ℕ → ℕ → ℕ → Issued
issued seed s k p = record { proxy = p; token = token_of seed s k p }
