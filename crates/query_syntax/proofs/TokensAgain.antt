-- The canonical text of tokens has those tokens.
use Rattle.std.proofs.Common.{◌≡◌, ℕ, suc, ◌-◌, ◌+◌, ◌^◌, ◌<◌, Bool, true, false, not, ◌||◌, List, [], ◌∷◌, ◌++◌, ℤ, pos, negsuc, Some, None, Result, Ok, refl, ap, subst, ◌∙◌, add-zero, arith, length}
use Rattle.std.specs.Prelude.{if◌then◌else◌, ◌==◌}
use Rattle.std.specs.List.{list_all}
use Rattle.std.specs.Fmt as fmt
use Rattle.std.proofs.lemmas.Bool.{false≢true, and_parts, or_from, ne_eqb, lt-ltb, ltb-true, not-true}
use Rattle.std.proofs.lemmas.Fmt.{decimal_nonempty}
use Rattle.okws_base.specs.Names.{is_word, is_keyword}
use Rattle.okws_base.specs.declared.value.Value.{Value}
use Rattle.okws_base.specs.declared.value.Value.TheVariants as value
use Rattle.plain_text.specs.Words.{is_blank}
use Rattle.query_syntax.specs.declared.error.Refusal.{Refusal}
use Rattle.query_syntax.specs.declared.token.Fixed.{Fixed}
use Rattle.query_syntax.specs.declared.token.Fixed.TheVariants as fixed
use Rattle.query_syntax.specs.declared.token.Token.{Token}
use Rattle.query_syntax.specs.declared.token.Token.TheVariants as token
use Rattle.query_syntax.specs.declared.token.Placed.{Placed}
use Rattle.query_syntax.specs.Tokens.{same_fixed, token_at, placed, with_tokens, tokens_from}
use Rattle.query_syntax.specs.Spelling.{fixed_text, value_text, token_text, opens, closes, joined}
use Rattle.query_syntax.specs.Forms.{tokens_in}
use Rattle.query_syntax.specs.ReadAgain.{is_spelled, is_held, has_64_bits, found_barely, TokensAreReadAgain}
use Rattle.query_syntax.proofs.Spelled.{Stop, end, blank, close, comma, dot, word_again, plain_word, written, positive_again, negative_again, parameter_again, text_again, bytes_again, fixed_again}

-- each token

integer_again : (n : ℤ) (rest : List ℕ) → has_64_bits n ≡ true → Stop rest → token_at (value_text (value.Int n) ++ rest) ≡ Some (token.Literal (value.Int n), length (value_text (value.Int n)))
integer_again (pos n) rest h s =
    let below : n < 2 ^ 63 = ltb-true n (2 ^ 63) h in
    positive_again (fmt.decimal n) rest n (written n (omega arith)) below s
integer_again (negsuc n) rest h s =
    let below : n < 2 ^ 63 = ltb-true n (2 ^ 63) h in
    negative_again (fmt.decimal (suc n)) rest n (written (suc n) (omega arith)) below s

value_again : (v : Value) (rest : List ℕ) → is_held v ≡ true → Stop rest → token_at (value_text v ++ rest) ≡ Some (token.Literal v, length (value_text v))
value_again (value.Int n) rest h s = integer_again n rest h s
value_again (value.Text t) rest h s = text_again t rest h s
value_again (value.Bytes b) rest h s = bytes_again b rest h

token_again : (t : Token) (rest : List ℕ) → is_spelled t ≡ true → Stop rest → token_at (token_text t ++ rest) ≡ Some (t, length (token_text t))
token_again (token.Fixed f) rest h s = fixed_again f rest h s
token_again (token.Word w) rest h s =
    let both = and_parts (is_word w) (not (is_keyword w)) h in
    word_again w rest both.0 s ∙ ap (λ (t : Token). Some (t, length w)) (plain_word w (not-true (is_keyword w) both.1))
token_again (token.Parameter n) rest h s =
    let below : n < 2 ^ 64 = ltb-true n (2 ^ 64) h in
    parameter_again (fmt.decimal n) rest n (written n below) below s
token_again (token.Literal v) rest h s = value_again v rest h s

-- behind a `(` or a `.` anything may stand
sign_open_again : (f : Fixed) (rest : List ℕ) → (same_fixed f fixed.Open || same_fixed f fixed.Dot) ≡ true → token_at (fixed_text f ++ rest) ≡ Some (token.Fixed f, length (fixed_text f))
unfolding fixed_text token_at
sign_open_again fixed.Open rest h = refl
sign_open_again fixed.Dot rest h = refl
sign_open_again _ rest h = absurd (false≢true h)

open_again : (t : Token) (rest : List ℕ) → opens t ≡ true → token_at (token_text t ++ rest) ≡ Some (t, length (token_text t))
open_again (token.Fixed f) rest h = sign_open_again f rest h
open_again (token.Word w) rest h = absurd (false≢true h)
open_again (token.Parameter n) rest h = absurd (false≢true h)
open_again (token.Literal v) rest h = absurd (false≢true h)

-- a `)`, a `,` and a `.` end the token before them
sign_close_stops : (f : Fixed) (rest : List ℕ) → (same_fixed f fixed.Close || (same_fixed f fixed.Comma || same_fixed f fixed.Dot)) ≡ true → Stop (fixed_text f ++ rest)
unfolding fixed_text
sign_close_stops fixed.Close rest h = close rest
sign_close_stops fixed.Comma rest h = comma rest
sign_close_stops fixed.Dot rest h = dot rest
sign_close_stops _ rest h = absurd (false≢true h)

close_stops : (t : Token) (rest : List ℕ) → closes t ≡ true → Stop (token_text t ++ rest)
close_stops (token.Fixed f) rest h = sign_close_stops f rest h
close_stops (token.Word w) rest h = absurd (false≢true h)
close_stops (token.Parameter n) rest h = absurd (false≢true h)
close_stops (token.Literal v) rest h = absurd (false≢true h)

joined_stops : (ts : List Token) → Stop (joined false ts)
joined_stops [] = end
joined_stops (t ∷ more) = by_close (closes t) refl
  where
    by_close : (b : Bool) → closes t ≡ b → Stop (joined false (t ∷ more))
    by_close true e = rw e (close_stops t (joined (opens t) more) e)
    by_close false e = rw e (blank (token_text t ++ joined (opens t) more))

found_behind : (t : Token) (more : List Token) → is_spelled t ≡ true → token_at (token_text t ++ joined (opens t) more) ≡ Some (t, length (token_text t))
found_behind t more h = by_open (opens t) refl
  where
    by_open : (b : Bool) → opens t ≡ b → token_at (token_text t ++ joined (opens t) more) ≡ Some (t, length (token_text t))
    by_open true e = open_again t (joined (opens t) more) e
    by_open false e = rw e (token_again t (joined false more) h (joined_stops more))

-- a token's text has a byte

fixed_some : (f : Fixed) → not (same_fixed f fixed.End) ≡ true → 0 < length (fixed_text f)
unfolding fixed_text
fixed_some fixed.End h = absurd (false≢true h)
fixed_some _ h = omega arith

word_some : (w : List ℕ) → is_word w ≡ true → 0 < length w
word_some [] h = absurd (false≢true h)
word_some (b ∷ more) h = omega arith

integer_some : (n : ℤ) → has_64_bits n ≡ true → 0 < length (value_text (value.Int n))
integer_some (pos n) h = let below : n < 2 ^ 63 = ltb-true n (2 ^ 63) h in decimal_nonempty n (omega arith)
integer_some (negsuc n) h = omega arith

value_some : (v : Value) → is_held v ≡ true → 0 < length (value_text v)
value_some (value.Int n) h = integer_some n h
value_some (value.Text t) h = omega arith
value_some (value.Bytes b) h = omega arith

token_some : (t : Token) → is_spelled t ≡ true → 0 < length (token_text t)
token_some (token.Fixed f) h = fixed_some f h
token_some (token.Word w) h = word_some w (and_parts (is_word w) (not (is_keyword w)) h).0
token_some (token.Parameter n) h = omega arith
token_some (token.Literal v) h = value_some v h

-- no token begins at a blank
not_blank : (b : ℕ) (more : List ℕ) (found : Token × ℕ) → token_at (b ∷ more) ≡ Some found → is_blank b ≡ false
unfolding token_at
not_blank b more found h = or_from (b == 32) (b == 9) (ne_eqb b 32 is_space) (ne_eqb b 9 is_tab)
  where
    is_space : b ≡ 32 → ⊥
    is_space e = let P : ℕ → Type 0 = λ n. token_at (n ∷ more) ≡ Some found in let none : None ≡ Some found = subst P e h in cc

    is_tab : b ≡ 9 → ⊥
    is_tab e = let P : ℕ → Type 0 = λ n. token_at (n ∷ more) ≡ Some found in let none : None ≡ Some found = subst P e h in cc

-- the bytes of a token are passed over
passed : (xs rest : List ℕ) (p : ℕ) → tokens_from (length xs) p (xs ++ rest) ≡ tokens_from 0 (p + length xs) rest
passed [] rest p = rw (add-zero p) refl
passed (x ∷ more) rest p =
    let k : suc (length more) - 1 ≡ length more = omega arith in
    let n : p + 1 + length more ≡ p + suc (length more) = omega arith in
    rw (lt-ltb 0 (suc (length more)) (omega arith), k, passed more rest (p + 1), n) refl

-- the first token, and the tokens behind it
begins_with : (text rest : List ℕ) (t : Token) (p : ℕ) → 0 < length text → token_at (text ++ rest) ≡ Some (t, length text)
    → tokens_from 0 p (text ++ rest) ≡ with_tokens (placed p t ∷ []) (tokens_from 0 (p + length text) rest)
begins_with [] rest t p some h = absurd (omega (arith, some))
begins_with (b ∷ more) rest t p some h =
    let k : suc (length more) - 1 ≡ length more = omega arith in
    let n : p + 1 + length more ≡ p + suc (length more) = omega arith in
    rw (not_blank b (more ++ rest) (t, suc (length more)) h, h, k, passed more rest (p + 1), n) refl

-- the tokens are found, and then the end
record IsFound (ts : List Token) (found : Result (List Placed) Refusal) : Type 0 where
  them : List Placed
  is : found ≡ Ok them
  are : tokens_in them ≡ ts ++ token.Fixed fixed.End ∷ []

one_more : (ts : List Token) (t : Token) (p : ℕ) (found whole : Result (List Placed) Refusal) → whole ≡ with_tokens (placed p t ∷ []) found → IsFound ts found → IsFound (t ∷ ts) whole
one_more ts t p found whole e h =
    record { them = placed p t ∷ h.them; is = e ∙ ap (with_tokens (placed p t ∷ [])) h.is; are = ap (λ (xs : List Token). t ∷ xs) h.are }

found_first : (t : Token) (more : List Token) → is_spelled t ≡ true → ((p : ℕ) → IsFound more (tokens_from 0 p (joined (opens t) more))) → (p : ℕ) → IsFound (t ∷ more) (tokens_from 0 p (token_text t ++ joined (opens t) more))
found_first t more h behind p =
    let size : ℕ = length (token_text t) in
    let rest : List ℕ = joined (opens t) more in
    one_more more t p (tokens_from 0 (p + size) rest) (tokens_from 0 p (token_text t ++ rest)) (begins_with (token_text t) rest t p (token_some t h) (found_behind t more h)) (behind (p + size))

found_spaced : (t : Token) (more : List Token) (tight : Bool) → ((p : ℕ) → IsFound (t ∷ more) (tokens_from 0 p (token_text t ++ joined (opens t) more)))
    → (p : ℕ) → IsFound (t ∷ more) (tokens_from 0 p (((if tight then [] else 32 ∷ []) ++ token_text t) ++ joined (opens t) more))
found_spaced t more true h p = h p
found_spaced t more false h p = h (p + 1)

all_found : (tight : Bool) (ts : List Token) → list_all is_spelled ts ≡ true → (p : ℕ) → IsFound ts (tokens_from 0 p (joined tight ts))
all_found tight [] h p = record { them = placed p (token.Fixed fixed.End) ∷ []; is = refl; are = refl }
all_found tight (t ∷ more) h p =
    let good = and_parts (is_spelled t) (list_all is_spelled more) h in
    found_spaced t more (tight || closes t) (found_first t more good.0 (all_found (opens t) more good.1)) p

pub tokens_again : TokensAreReadAgain
tokens_again ts h =
    let found = all_found true ts h 0 in
    ap found_barely found.is ∙ ap (λ (xs : List Token). Ok xs) found.are
