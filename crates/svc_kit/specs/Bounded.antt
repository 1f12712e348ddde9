-- Texts that are kept up to a length.
use Rattle.std.specs.Prelude.{◌≡◌, ℕ, ◌<◌, ◌≤◌, true, false, List, length}
use Rattle.svc_kit.specs.declared.bounded.Bounded.{Bounded}
use Rattle.svc_kit.specs.declared.bounded.TheConstants.{LONGEST_FILLED}

-- All of a text is kept, where it isn't longer than texts are kept.
pub record Holds (kept : Bounded) (text : List ℕ) : Type 0 where
  pub whole : kept.over ≡ false → kept.bytes.items ≡ text
  pub short : kept.over ≡ false → length text ≤ LONGEST_FILLED
  pub long : kept.over ≡ true → LONGEST_FILLED < length text
