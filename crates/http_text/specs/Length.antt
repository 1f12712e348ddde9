-- The values of Content-Length fields (RFC 9110, section 8.6).
use Rattle.std.specs.Prelude.{ℕ, nat_le, List, [], ◌∷◌, reverse, if◌then◌else◌}
use Rattle.okws_base.specs.declared.limit.TheConstants.{LONGEST_CONTENT}
use Rattle.plain_text.specs.Words.{is_blank}
use Rattle.plain_text.specs.Decimals.{is_numeral, decimal_value}
use Rattle.http_text.specs.declared.length.ContentLength.{ContentLength}
use Rattle.http_text.specs.declared.length.ContentLength.TheVariants.{Length, TooLarge, NotDigits}

-- A text without the spaces and tabs that it begins with.
abbrev pub without_leading_blanks : List ℕ → List ℕ
without_leading_blanks [] = []
without_leading_blanks (b ∷ more) = if is_blank b then without_leading_blanks more else b ∷ more

-- A text without the spaces and tabs that it ends with.
abbrev pub without_trailing_blanks : List ℕ → List ℕ
without_trailing_blanks text = reverse (without_leading_blanks (reverse text))

-- A number is a length where it is at most 262,144, and else too large.
abbrev pub length_within : ℕ → ContentLength
length_within n = if nat_le n LONGEST_CONTENT then Length n else TooLarge

-- A value without the spaces and tabs around it.
abbrev pub without_blanks : List ℕ → List ℕ
without_blanks value = without_trailing_blanks (without_leading_blanks value)

-- A value says the number of its digits, however many they are, with the spaces and tabs around it dropped.
abbrev pub length_of : List ℕ → ContentLength
length_of value =
    let digits = without_blanks value in
    if is_numeral digits then length_within (decimal_value digits) else NotDigits
