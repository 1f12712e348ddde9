-- What a request asks of the guestbook.
use Rattle.std.specs.Prelude.{ℕ, ℤ, pos, negsuc, zero, suc, ◌^◌, ◌==◌, ◌&&◌, ◌||◌, nat_lt, nat_le, Bool, List, [], ◌∷◌, take, drop, Option, Some, None, if◌then◌else◌, codes}
use Rattle.std.specs.List.{prefix_len}
use Rattle.okws_base.specs.Value.{same_bytes}
use Rattle.plain_text.specs.Decimals.{is_numeral, decimal_value}
use Rattle.svc_kit.specs.Form.{form_value}
use Rattle.guestbook.specs.declared.request.Asked.{Asked}
use Rattle.guestbook.specs.declared.request.Asked.TheVariants.{Show, Sign, BadForm}

-- A CR or an LF.
abbrev pub is_break : ℕ → Bool
is_break b = (b == 13) || (b == 10)

-- A head that, behind leading CRs and LFs, begins with `POST ` is a POST.
abbrev pub is_post : List ℕ → Bool
is_post head = same_bytes (take 5 (drop (prefix_len is_break head) head)) (codes "POST ")

-- A number that is so far below 0.
abbrev pub negated : ℕ → ℤ
negated zero = pos 0
negated (suc n) = negsuc n

-- The number that digits write, where it is one of 64 bits with a sign.
abbrev pub positive : List ℕ → Option ℤ
positive digits = if is_numeral digits && nat_lt (decimal_value digits) (2 ^ 63) then Some (pos (decimal_value digits)) else None

-- The number that digits behind a `-` write, where it is one of 64 bits with a sign.
abbrev pub negative : List ℕ → Option ℤ
negative digits = if is_numeral digits && nat_le (decimal_value digits) (2 ^ 63) then Some (negated (decimal_value digits)) else None

-- The number of 64 bits with a sign that a text writes: `-` if wanted, then digits.
abbrev pub number : List ℕ → Option ℤ
number [] = None
number (b ∷ more) = if b == 45 then negative more else positive (b ∷ more)

-- An entry, where its number is one.
abbrev pub signed : Option ℤ → List ℕ → List ℕ → Asked
signed None who note = BadForm
signed (Some id) who note = Sign (record { id = id; who = who; note = note })

-- An entry of the form's first pairs `id`, `who` and `note`, where none is missing.
abbrev pub posted : Option (List ℕ) → Option (List ℕ) → Option (List ℕ) → Asked
posted (Some id) (Some who) (Some note) = signed (number id) who note
posted _ _ _ = BadForm

-- What a request asks: a POST to enter its form, any other to show the entries.
abbrev pub asked : List ℕ → List ℕ → Asked
asked head content =
    if is_post head then posted (form_value content (codes "id")) (form_value content (codes "who")) (form_value content (codes "note"))
    else Show
