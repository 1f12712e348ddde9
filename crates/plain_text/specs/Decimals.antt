-- Decimal numbers.
use Rattle.std.specs.Prelude.{ℕ, Bool, ◌&&◌, nat_le, List, length, Option, Some, None, if◌then◌else◌}
use Rattle.std.specs.List.{list_all}
use Rattle.std.specs.Char.{is_ascii_digit}
use Rattle.std.specs.Str.Parse.{digits_value}
use Rattle.plain_text.specs.declared.decimals.TheConstants.{LONGEST_NUMBER}

-- One or more decimal digits, and nothing else.
abbrev pub is_numeral : List ℕ → Bool
is_numeral text = nat_le 1 (length text) && list_all is_ascii_digit text

-- The number that decimal digits write, with leading zeros too.
abbrev pub decimal_value : List ℕ → ℕ
decimal_value digits = digits_value 10 digits

-- A number has 1 to 9 decimal digits.
abbrev pub is_number : List ℕ → Bool
is_number word = nat_le 1 (length word) && (nat_le (length word) LONGEST_NUMBER && list_all is_ascii_digit word)

-- The number of a word that is one.
abbrev pub number : List ℕ → Option ℕ
number word = if is_number word then Some (decimal_value word) else None
