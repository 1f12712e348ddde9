-- Which token begins at a place of a text.
use Rattle.std.specs.Prelude.{ℕ, ◌+◌, ◌-◌, ◌*◌, ◌^◌, zero, suc, ℤ, pos, negsuc, min, Bool, true, false, List, [], ◌∷◌, ◌++◌, length, take, drop, slice_index, nat_le, nat_lt, ◌&&◌, ◌||◌, ◌==◌, nat_eq, Option, Some, None, option_and_then, Result, Ok, Err, if◌then◌else◌, codes}
use Rattle.std.specs.Char.{is_ascii_digit}
use Rattle.std.specs.List.{prefix_len}
use Rattle.std.specs.Str.{is_utf8}
use Rattle.hex.specs.Hex.{hex_digit_value}
use Rattle.okws_base.specs.Names.{is_first_byte, is_word_byte, same_word}
use Rattle.okws_base.specs.declared.value.Value.TheVariants as value
use Rattle.plain_text.specs.Decimals.{decimal_value}
use Rattle.plain_text.specs.Words.{is_blank}
use Rattle.query_syntax.specs.declared.error.Refusal.{Refusal}
use Rattle.query_syntax.specs.declared.error.TextRule.TheVariants.{BadToken}
use Rattle.query_syntax.specs.declared.token.Token.{Token}
use Rattle.query_syntax.specs.declared.token.Token.TheVariants as token
use Rattle.query_syntax.specs.declared.token.Placed.{Placed}
use Rattle.query_syntax.specs.declared.token.Fixed.{Fixed}
use Rattle.query_syntax.specs.declared.token.Fixed.TheVariants as fixed

-- A number for each spelling, by which they are compared.
abbrev pub fixed_number : Fixed → ℕ
fixed_number fixed.Select = 0
fixed_number fixed.From = 1
fixed_number fixed.Where = 2
fixed_number fixed.And = 3
fixed_number fixed.Order = 4
fixed_number fixed.By = 5
fixed_number fixed.Limit = 6
fixed_number fixed.Insert = 7
fixed_number fixed.Into = 8
fixed_number fixed.Values = 9
fixed_number fixed.Update = 10
fixed_number fixed.Set = 11
fixed_number fixed.Delete = 12
fixed_number fixed.Int = 13
fixed_number fixed.Text = 14
fixed_number fixed.Bytes = 15
fixed_number fixed.Key = 16
fixed_number fixed.Open = 17
fixed_number fixed.Close = 18
fixed_number fixed.Comma = 19
fixed_number fixed.Dot = 20
fixed_number fixed.Equal = 21
fixed_number fixed.Differs = 22
fixed_number fixed.Below = 23
fixed_number fixed.AtMost = 24
fixed_number fixed.Above = 25
fixed_number fixed.AtLeast = 26
fixed_number fixed.End = 27

-- Two tokens of one spelling are the same.
abbrev pub same_fixed : Fixed → Fixed → Bool
same_fixed a b = nat_eq (fixed_number a) (fixed_number b)

-- The keywords that begin or join the parts of a statement.
abbrev pub clause_keyword : List ℕ → Option Fixed
clause_keyword w =
    if same_word w (codes "FROM") then Some fixed.From
    else if same_word w (codes "WHERE") then Some fixed.Where
    else if same_word w (codes "AND") then Some fixed.And
    else if same_word w (codes "ORDER") then Some fixed.Order
    else if same_word w (codes "BY") then Some fixed.By
    else if same_word w (codes "LIMIT") then Some fixed.Limit
    else if same_word w (codes "INTO") then Some fixed.Into
    else if same_word w (codes "VALUES") then Some fixed.Values
    else if same_word w (codes "SET") then Some fixed.Set
    else None

-- The keywords that begin a statement.
abbrev pub action_keyword : List ℕ → Option Fixed
action_keyword w =
    if same_word w (codes "SELECT") then Some fixed.Select
    else if same_word w (codes "INSERT") then Some fixed.Insert
    else if same_word w (codes "UPDATE") then Some fixed.Update
    else if same_word w (codes "DELETE") then Some fixed.Delete
    else None

-- The keywords of column types, and KEY.
abbrev pub column_keyword : List ℕ → Option Fixed
column_keyword w =
    if same_word w (codes "INT") then Some fixed.Int
    else if same_word w (codes "TEXT") then Some fixed.Text
    else if same_word w (codes "BYTES") then Some fixed.Bytes
    else if same_word w (codes "KEY") then Some fixed.Key
    else None

-- The first of two that is there.
abbrev pub or_else : {A : Type 0} → Option A → Option A → Option A
or_else (Some a) other = Some a
or_else None other = other

-- The keyword that a word is, in any ASCII case.
unfoldable pub keyword : List ℕ → Option Fixed
keyword w = or_else (clause_keyword w) (or_else (action_keyword w) (column_keyword w))

-- A keyword stands for itself, and any other word is a word.
abbrev pub word_or : Option Fixed → List ℕ → Token
word_or (Some k) w = token.Fixed k
word_or None w = token.Word w

-- A word that is no keyword stands for itself.
abbrev pub word_token : List ℕ → Token
word_token w = word_or (keyword w) w

-- The word at the front, up to the first byte that is no letter, digit or `_`.
abbrev pub word_at : List ℕ → Option (Token × ℕ)
word_at bytes = Some (word_token (take (prefix_len is_word_byte bytes) bytes), prefix_len is_word_byte bytes)

-- the number below 0 that is so far from it
abbrev pub negated : ℕ → ℤ
negated zero = pos 0
negated (suc n) = negsuc n

-- All digits at the front are one integer, of at most 2 ^ 63 - 1.
abbrev pub positive_at : List ℕ → Option (Token × ℕ)
positive_at bytes =
    if nat_lt (decimal_value (take (prefix_len is_ascii_digit bytes) bytes)) (2 ^ 63)
    then Some (token.Literal (value.Int (pos (decimal_value (take (prefix_len is_ascii_digit bytes) bytes)))), prefix_len is_ascii_digit bytes)
    else None

-- Behind a `-`: at least one digit, and a number of at most 2 ^ 63.
abbrev pub negative_at : List ℕ → Option (Token × ℕ)
negative_at bytes =
    if (prefix_len is_ascii_digit bytes) == 0 then None
    else if nat_le (decimal_value (take (prefix_len is_ascii_digit bytes) bytes)) (2 ^ 63)
    then Some (token.Literal (value.Int (negated (decimal_value (take (prefix_len is_ascii_digit bytes) bytes)))), 1 + prefix_len is_ascii_digit bytes)
    else None

-- Behind a `?`: at least one digit.
abbrev pub parameter_at : List ℕ → Option (Token × ℕ)
parameter_at bytes =
    if (prefix_len is_ascii_digit bytes) == 0 then None
    else Some (token.Parameter (min (decimal_value (take (prefix_len is_ascii_digit bytes) bytes)) (2 ^ 64 - 1)), 1 + prefix_len is_ascii_digit bytes)

-- bytes in front of the content, and how many bytes of the text they took
abbrev pub with_content : List ℕ → ℕ → Option (List ℕ × ℕ) → Option (List ℕ × ℕ)
with_content front n None = None
with_content front n (Some more) = Some (front ++ more.0, n + more.1)

-- Behind a `'`: all up to the first `'` that isn't doubled, with one `'` for two; and how many bytes that takes. `odd` tells that a `'` stands before, which a second one may double.
abbrev pub quoted_from : Bool → List ℕ → Option (List ℕ × ℕ)
quoted_from false [] = None
quoted_from true [] = Some ([], 0)
quoted_from odd (b ∷ more) =
    if b == 39 then (if odd then with_content (39 ∷ []) 1 (quoted_from false more) else with_content [] 1 (quoted_from true more))
    else (if odd then Some ([], 0) else with_content (b ∷ []) 1 (quoted_from false more))

-- The content of a text behind its first `'`, and how many bytes it takes.
abbrev pub quoted : List ℕ → Option (List ℕ × ℕ)
quoted bytes = quoted_from false bytes

-- A text of this content, where it is UTF-8.
abbrev pub text_of_content : Option (List ℕ × ℕ) → Option (Token × ℕ)
text_of_content None = None
text_of_content (Some found) = if is_utf8 found.0 then Some (token.Literal (value.Text found.0), 1 + found.1) else None

-- A text ends at its quote, and its characters are UTF-8.
abbrev pub text_at : List ℕ → Option (Token × ℕ)
text_at bytes = text_of_content (quoted bytes)

-- Behind `x'`: pairs of hexadecimal digits up to a `'`. `high` is the first digit of a pair.
abbrev pub hexadecimal_from : Option ℕ → List ℕ → Option (List ℕ × ℕ)
hexadecimal_from high [] = None
hexadecimal_from None (b ∷ more) =
    if b == 39 then Some ([], 1)
    else option_and_then (λ (digit : ℕ). with_content [] 1 (hexadecimal_from (Some digit) more)) (hex_digit_value b)
hexadecimal_from (Some high) (b ∷ more) =
    option_and_then (λ (low : ℕ). with_content ((high * 16 + low) ∷ []) 1 (hexadecimal_from None more)) (hex_digit_value b)

-- The bytes behind an `x'`, and how many bytes of the text they take.
abbrev pub hexadecimal : List ℕ → Option (List ℕ × ℕ)
hexadecimal bytes = hexadecimal_from None bytes

-- Bytes of this content, behind an `x'`.
abbrev pub bytes_of_content : Option (List ℕ × ℕ) → Option (Token × ℕ)
bytes_of_content None = None
bytes_of_content (Some found) = Some (token.Literal (value.Bytes found.0), 2 + found.1)

-- Bytes end at their `'`, and each is two hexadecimal digits.
abbrev pub bytes_at : List ℕ → Option (Token × ℕ)
bytes_at bytes = bytes_of_content (hexadecimal bytes)

-- An `x` or an `X`.
abbrev pub is_x : ℕ → Bool
is_x b = (b == 120) || (b == 88)

-- `x` or `X` with a `'` directly behind it begins bytes.
abbrev pub begins_bytes : List ℕ → Bool
begins_bytes bytes = nat_le 2 (length bytes) && (is_x (slice_index bytes 0) && (slice_index bytes 1 == 39))

-- Behind a letter or `_`: bytes where they begin, and otherwise a word.
abbrev pub word_or_bytes_at : List ℕ → Option (Token × ℕ)
word_or_bytes_at bytes = if begins_bytes bytes then bytes_at (drop 2 bytes) else word_at bytes

-- A sign of so many bytes.
abbrev pub sign : Fixed → ℕ → Option (Token × ℕ)
sign f n = Some (token.Fixed f, n)

-- Behind a `<`: the longest of `<>`, `<=`, `<`.
abbrev pub below_at : List ℕ → Option (Token × ℕ)
below_at [] = sign fixed.Below 1
below_at (c ∷ more) = if c == 62 then sign fixed.Differs 2 else if c == 61 then sign fixed.AtMost 2 else sign fixed.Below 1

-- Behind a `>`: the longer of `>=` and `>`.
abbrev pub above_at : List ℕ → Option (Token × ℕ)
above_at [] = sign fixed.Above 1
above_at (c ∷ more) = if c == 61 then sign fixed.AtLeast 2 else sign fixed.Above 1

-- A sign by its first byte: `(`, `)`, `,`, `.`, `=`, or what `<` or `>` begins.
abbrev pub sign_at : ℕ → List ℕ → Option (Token × ℕ)
sign_at b more =
    if b == 40 then sign fixed.Open 1
    else if b == 41 then sign fixed.Close 1
    else if b == 44 then sign fixed.Comma 1
    else if b == 46 then sign fixed.Dot 1
    else if b == 61 then sign fixed.Equal 1
    else if b == 60 then below_at more
    else if b == 62 then above_at more
    else None

-- The longest token that begins the bytes, and its length; None where no token begins them or theirs is malformed.
unfoldable pub token_at : List ℕ → Option (Token × ℕ)
token_at [] = None
token_at (b ∷ more) =
    if is_first_byte b then word_or_bytes_at (b ∷ more)
    else if is_ascii_digit b then positive_at (b ∷ more)
    else if b == 45 then negative_at more
    else if b == 63 then parameter_at more
    else if b == 39 then text_at more
    else sign_at b more

-- A token at its place.
abbrev pub placed : ℕ → Token → Placed
placed p t = record { at = p; token = t }

-- Tokens before those that follow.
abbrev pub with_tokens : List Placed → Result (List Placed) Refusal → Result (List Placed) Refusal
with_tokens front (Ok more) = Ok (front ++ more)
with_tokens front (Err e) = Err e

-- A token, and those that follow it; rule 1 where there is none.
abbrev pub token_then : ℕ → Option (Token × ℕ) → (ℕ → Result (List Placed) Refusal) → Result (List Placed) Refusal
token_then p None more = Err (record { at = p; rule = BadToken })
token_then p (Some found) more = with_tokens (placed p found.0 ∷ []) (more (found.1 - 1))

-- The tokens of the bytes from place p on, of which the first k are left of a token that began before: at each place behind a token, and behind blanks, the longest token begins. Behind the last one stands the end. The first place where none begins is refused.
abbrev pub tokens_from : ℕ → ℕ → List ℕ → Result (List Placed) Refusal
tokens_from k p [] = Ok (placed p (token.Fixed fixed.End) ∷ [])
tokens_from k p (b ∷ more) =
    if nat_lt 0 k then tokens_from (k - 1) (p + 1) more
    else if is_blank b then tokens_from 0 (p + 1) more
    else token_then p (token_at (b ∷ more)) (λ left. tokens_from left (p + 1) more)

-- The tokens of a text.
abbrev pub tokens : List ℕ → Result (List Placed) Refusal
tokens text = tokens_from 0 0 text
