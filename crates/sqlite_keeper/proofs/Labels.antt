-- UTF-8 as a test.
use Rattle.std.proofs.Common.{◌≡◌, List, ℕ, true, false, Bool, refl}
use Rattle.std.specs.Str.{IsUtf8, is_utf8}
use Rattle.std.proofs.lemmas.Str.{IsUtf8-from_is_utf8, is_utf8-from_IsUtf8}

pub utf8_passes : (bytes : List ℕ) → IsUtf8 bytes → is_utf8 bytes ≡ true
utf8_passes bytes text = is_utf8-from_IsUtf8 bytes text

pub utf8_fails : (bytes : List ℕ) → (IsUtf8 bytes → ⊥) → is_utf8 bytes ≡ false
utf8_fails bytes none = by_test (is_utf8 bytes) refl
  where
    by_test : (b : Bool) → is_utf8 bytes ≡ b → is_utf8 bytes ≡ false
    by_test true is = absurd (none (IsUtf8-from_is_utf8 bytes is))
    by_test false is = is

pub ruleset utf8_tests = (utf8_passes, utf8_fails)
