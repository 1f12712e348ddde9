-- What the words and the bytes of a line may be, and numbers.
use Rattle.std.specs.Prelude.{ℕ, Bool, ◌&&◌, ◌||◌, ◌==◌, not, nat_le, List, ◌∷◌, Option, Some, None}
use Rattle.std.specs.List.{list_all}
use Rattle.std.specs.Str.{is_utf8}
use Rattle.plain_text.specs.Decimals.{is_number, decimal_value}

-- A byte of a text: a tab, or at least 32 and not 127.
abbrev pub is_text_byte : ℕ → Bool
is_text_byte b = (b == 9) || (nat_le 32 b && not (b == 127))

-- A line is UTF-8 without control bytes other than tabs.
abbrev pub is_text_line : List ℕ → Bool
is_text_line line = is_utf8 line && list_all is_text_byte line

-- A number has 1 to 9 decimal digits, and is at most so great.
abbrev pub is_number_to : ℕ → List ℕ → Bool
is_number_to most word = is_number word && nat_le (decimal_value word) most

-- Two words and at least one more, which begins the text behind them.
abbrev pub two_and_text : List (List ℕ) → List ℕ → Option (List ℕ × List ℕ × List ℕ)
two_and_text (a ∷ b ∷ c ∷ more) text = Some (a, b, text)
two_and_text _ text = None

-- One word and at least one more.
abbrev pub one_and_more : List (List ℕ) → Option (List ℕ × List (List ℕ))
one_and_more (a ∷ b ∷ more) = Some (a, b ∷ more)
one_and_more _ = None

-- Two words and at least one more.
abbrev pub two_and_more : List (List ℕ) → Option (List ℕ × List ℕ × List (List ℕ))
two_and_more (a ∷ b ∷ c ∷ more) = Some (a, b, c ∷ more)
two_and_more _ = None
