-- The values of a form.
use Rattle.std.specs.Prelude.{ℕ, List, [], ◌∷◌, Option, Some, None, nat_eq, if◌then◌else◌}
use Rattle.std.specs.Str.Lossy.{utf8_lossy}
use Rattle.std.specs.Cmp.Lexicographic.{pointwise}
use Rattle.form_urlencoded.specs.Form.{decode, raw_pairs}

-- The text that the bytes of a name or a value stand for.
abbrev pub text_of : List ℕ → List ℕ
text_of bytes = utf8_lossy (decode bytes)

-- The value of the first pair with this name.
abbrev pub first_value : List (List ℕ × List ℕ) → List ℕ → Option (List ℕ)
first_value [] name = None
first_value (pair ∷ more) name = if pointwise nat_eq (text_of pair.0) name then Some (text_of pair.1) else first_value more name

-- The value of the first pair of a form with this name.
unfoldable pub form_value : List ℕ → List ℕ → Option (List ℕ)
form_value form name = first_value (raw_pairs form) name
