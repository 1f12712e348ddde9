-- When bytes are a text.
use Rattle.std.proofs.Common.{◌≡◌, ℕ, Bool, true, false, List, Result, Ok, Err, refl, sym}
use Rattle.std.specs.Prelude.{MatchResult, is_ok}
use Rattle.std.specs.Str.{is_utf8, IsUtf8}
use Rattle.std.proofs.lemmas.Str.{IsUtf8-from_is_utf8, is_utf8-from_IsUtf8}
use denote.Ref.{Bor}

isnt : (bytes : List ℕ) (t : Bool) → is_utf8 bytes ≡ t → (IsUtf8 bytes → ⊥) → false ≡ is_utf8 bytes
isnt bytes true e isnt_text = absurd (isnt_text (IsUtf8-from_is_utf8 bytes e))
isnt bytes false e isnt_text = sym e

pub text_read : {E : Type 0} (P : E → Type 0) (bytes : List ℕ) (read : Result (Bor (List ℕ)) E)
    → MatchResult read (λ s. (s.now ≡ bytes) × IsUtf8 bytes) (λ e. (IsUtf8 bytes → ⊥) × P e) → is_ok read ≡ is_utf8 bytes
text_read P bytes (Ok s) h = sym (is_utf8-from_IsUtf8 bytes h.1)
text_read P bytes (Err e) h = isnt bytes _ refl h.0
