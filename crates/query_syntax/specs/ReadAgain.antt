-- Which tokens are read from their canonical text.
use Rattle.std.specs.Prelude.{◌≡◌, ℕ, ◌^◌, ℤ, pos, negsuc, Bool, true, not, ◌&&◌, nat_lt, IsTrue, List, [], ◌∷◌, ◌++◌, Result, Ok, Err}
use Rattle.std.specs.List.{list_all}
use Rattle.std.specs.Str.{is_utf8}
use Rattle.okws_base.specs.Names.{is_word, is_keyword}
use Rattle.okws_base.specs.declared.value.Value.{Value}
use Rattle.okws_base.specs.declared.value.Value.TheVariants as value
use Rattle.query_syntax.specs.declared.error.Refusal.{Refusal}
use Rattle.query_syntax.specs.declared.token.Fixed.TheVariants as fixed
use Rattle.query_syntax.specs.declared.token.Token.{Token}
use Rattle.query_syntax.specs.declared.token.Token.TheVariants as token
use Rattle.query_syntax.specs.declared.token.Placed.{Placed}
use Rattle.query_syntax.specs.Spelling.{joined}
use Rattle.query_syntax.specs.Forms.{tokens_in}
use Rattle.query_syntax.specs.Tokens.{same_fixed, tokens}

-- An integer has 64 bits: it is -9223372036854775808 to 9223372036854775807.
abbrev pub has_64_bits : ℤ → Bool
has_64_bits (pos n) = nat_lt n (2 ^ 63)
has_64_bits (negsuc n) = nat_lt n (2 ^ 63)

-- A byte is a number below 256.
abbrev pub is_byte : ℕ → Bool
is_byte b = nat_lt b 256

-- A value that the program can hold: an integer of 64 bits, a text of UTF-8, or bytes.
abbrev pub is_held : Value → Bool
is_held (value.Int n) = has_64_bits n
is_held (value.Text t) = is_utf8 t
is_held (value.Bytes b) = list_all is_byte b

-- A token that a text can have: a keyword or a sign, a word that is no keyword, a parameter of 64 bits, or a value that the program can hold.
abbrev pub is_spelled : Token → Bool
is_spelled (token.Fixed f) = not (same_fixed f fixed.End)
is_spelled (token.Word w) = is_word w && not (is_keyword w)
is_spelled (token.Parameter n) = nat_lt n (2 ^ 64)
is_spelled (token.Literal v) = is_held v

-- What tokens were found, whatever their places are.
abbrev pub found_barely : Result (List Placed) Refusal → Result (List Token) Refusal
found_barely (Ok found) = Ok (tokens_in found)
found_barely (Err e) = Err e

-- The canonical text of tokens has those tokens, and then its end.
abbrev pub TokensAreReadAgain : Type 0
TokensAreReadAgain = (ts : List Token) → IsTrue (list_all is_spelled ts) → found_barely (tokens (joined true ts)) ≡ Ok (ts ++ token.Fixed fixed.End ∷ [])
