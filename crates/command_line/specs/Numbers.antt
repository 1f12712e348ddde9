-- Words that are numbers.
use Rattle.std.specs.Prelude.{ℕ, Bool, ◌&&◌, ◌||◌, ◌==◌, not, nat_le, List, length, slice_index, Option, Some, None, if◌then◌else◌}
use Rattle.plain_text.specs.Decimals.{decimal_value, is_numeral}

-- Decimal digits without a leading zero, but for the one digit of 0.
abbrev pub is_plain : List ℕ → Bool
is_plain digits = is_numeral digits && ((length digits == 1) || not (slice_index digits 0 == 48))

-- The number that a word writes plainly, where it is one of these.
abbrev pub number_in : ℕ → ℕ → List ℕ → Option ℕ
number_in least most word =
    if is_plain word && (nat_le least (decimal_value word) && nat_le (decimal_value word) most) then Some (decimal_value word) else None
