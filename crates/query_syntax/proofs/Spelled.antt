-- The canonical text of one token has that token, whatever stands behind it.
use Rattle.std.proofs.Common.{◌≡◌, ℕ, suc, ◌-◌, ◌+◌, ◌*◌, ◌/◌, ◌%◌, ◌^◌, ◌≤◌, ◌<◌, Bool, true, false, not, ◌&&◌, ◌||◌, cond, List, [], ◌∷◌, ◌++◌, get_or, pos, negsuc, Some, None, refl, sym, ap, subst, ◌∙◌, ⊎_elim, append_assoc, arith, length, codes}
use Rattle.std.specs.Prelude.{if◌then◌else◌, nat_le, ◌==◌, min}
use Rattle.std.specs.Char.{is_ascii_digit}
use Rattle.std.specs.List.{list_all, prefix_len}
use Rattle.std.specs.Str.{is_utf8}
use Rattle.std.specs.Fmt as fmt
use Rattle.std.proofs.lemmas.Bool.{false≢true, and_parts, or_parts, and_left, and_from, or_from, eqb-true, ne_eqb, lt-ltb, le-leb, lt-leb, le-ltb, leb-true, ltb-true, cases_lt}
use Rattle.std.proofs.lemmas.List.{take_at, length-append}
use Rattle.std.proofs.lemmas.Str.Parse.{IsNumeralModel, IsDigitsTest, numerals_by_value}
use Rattle.std.proofs.lemmas.Fmt.{digits_decimal, digits_value-decimal, decimal_nonempty}
use Rattle.okws_base.specs.Names.{is_first_byte, is_word_byte, is_letter, is_word, is_keyword, is_clause_word, is_action_word, is_column_word, same_word}
use Rattle.okws_base.specs.declared.value.Value.TheVariants as value
use Rattle.hex.specs.Hex.{hex_digit_value}
use Rattle.plain_text.specs.Decimals.{decimal_value}
use Rattle.plain_text.specs.Hexadecimal.{hex, hex_digit}
use Rattle.query_syntax.specs.declared.token.Fixed.{Fixed}
use Rattle.query_syntax.specs.declared.token.Fixed.TheVariants as fixed
use Rattle.query_syntax.specs.declared.token.Token.{Token}
use Rattle.query_syntax.specs.declared.token.Token.TheVariants as token
use Rattle.query_syntax.specs.Tokens.{same_fixed, keyword, clause_keyword, action_keyword, column_keyword, word_token, word_at, positive_at, negative_at, parameter_at, quoted_from, text_at, hexadecimal_from, bytes_at, begins_bytes, is_x, word_or_bytes_at, sign_at, token_at}
use Rattle.query_syntax.specs.Spelling.{fixed_text, doubled, value_text}
use Rattle.query_syntax.specs.ReadAgain.{is_byte}

-- what stands behind a token in a canonical text: nothing, a blank, a `)`, a `,` or a `.`
pub data Stop : List ℕ → Type 0 where
  end : Stop []
  blank : (more : List ℕ) → Stop (32 ∷ more)
  close : (more : List ℕ) → Stop (41 ∷ more)
  comma : (more : List ℕ) → Stop (44 ∷ more)
  dot : (more : List ℕ) → Stop (46 ∷ more)

no_word_byte : (rest : List ℕ) → Stop rest → prefix_len is_word_byte rest ≡ 0
no_word_byte rest end = refl
no_word_byte rest (blank more) = refl
no_word_byte rest (close more) = refl
no_word_byte rest (comma more) = refl
no_word_byte rest (dot more) = refl

no_digit : (rest : List ℕ) → Stop rest → prefix_len is_ascii_digit rest ≡ 0
no_digit rest end = refl
no_digit rest (blank more) = refl
no_digit rest (close more) = refl
no_digit rest (comma more) = refl
no_digit rest (dot more) = refl

no_quote : (rest : List ℕ) → Stop rest → (get_or rest 0 0 == 39) ≡ false
no_quote rest end = refl
no_quote rest (blank more) = refl
no_quote rest (close more) = refl
no_quote rest (comma more) = refl
no_quote rest (dot more) = refl

prefix_all : (p : ℕ → Bool) (xs rest : List ℕ) → list_all p xs ≡ true → prefix_len p rest ≡ 0 → prefix_len p (xs ++ rest) ≡ length xs
prefix_all p [] rest h e = e
prefix_all p (x ∷ xs) rest h e =
    let both = and_parts (p x) (list_all p xs) h in
    rw (both.0, prefix_all p xs rest both.1 e) (omega arith)

-- a word

is_word_byte_first : (l d u : Bool) → (l || u) ≡ true → ((l || d) || u) ≡ true
is_word_byte_first true d u h = refl
is_word_byte_first false true u h = refl
is_word_byte_first false false u h = h

not_quote : (c : ℕ) → is_word_byte c ≡ true → (c == 39) ≡ false
not_quote c h = ne_eqb c 39 (λ (e : c ≡ 39). let P : ℕ → Type 0 = λ n. is_word_byte n ≡ true in false≢true (subst P e h))

second_is_no_quote : (more rest : List ℕ) → list_all is_word_byte more ≡ true → Stop rest → (get_or (more ++ rest) 0 0 == 39) ≡ false
second_is_no_quote [] rest h s = no_quote rest s
second_is_no_quote (c ∷ more) rest h s = not_quote c (and_parts (is_word_byte c) (list_all is_word_byte more) h).0

third_fails : (x y z : Bool) → z ≡ false → (x && (y && z)) ≡ false
third_fails true true z h = h
third_fails true false z h = refl
third_fails false y z h = refl

begins_no_bytes : (b : ℕ) (more rest : List ℕ) → list_all is_word_byte more ≡ true → Stop rest → begins_bytes ((b ∷ more) ++ rest) ≡ false
begins_no_bytes b more rest h s = third_fails (nat_le 2 (length ((b ∷ more) ++ rest))) (is_x b) (get_or (more ++ rest) 0 0 == 39) (second_is_no_quote more rest h s)

word_found : (w rest : List ℕ) → list_all is_word_byte w ≡ true → Stop rest → word_at (w ++ rest) ≡ Some (word_token w, length w)
word_found w rest h s =
    let n : prefix_len is_word_byte (w ++ rest) ≡ length w = prefix_all is_word_byte w rest h (no_word_byte rest s) in
    rw (n, take_at w rest (length w) refl) refl

pub word_again : (w rest : List ℕ) → is_word w ≡ true → Stop rest → token_at (w ++ rest) ≡ Some (word_token w, length w)
unfolding token_at
word_again [] rest h s = absurd (false≢true h)
word_again (b ∷ more) rest h s =
    let both = and_parts (is_first_byte b) (list_all is_word_byte more) h in
    let first : is_word_byte b ≡ true = is_word_byte_first (is_letter b) (nat_le 48 b && nat_le b 57) (b == 95) both.0 in
    let whole : list_all is_word_byte (b ∷ more) ≡ true = rw (first, both.1) refl in
    rw (both.0, begins_no_bytes b more rest both.1 s) (word_found (b ∷ more) rest whole s)

-- what begins no keyword is none

none_of_nine : (a b c d e f g i j : Bool) (xa xb xc xd xe xf xg xi xj : Fixed) → (a || (b || (c || (d || (e || (f || (g || (i || j)))))))) ≡ false → cond a (Some xa) (cond b (Some xb) (cond c (Some xc) (cond d (Some xd) (cond e (Some xe) (cond f (Some xf) (cond g (Some xg) (cond i (Some xi) (cond j (Some xj) None)))))))) ≡ None
none_of_nine a b c d e f g i j xa xb xc xd xe xf xg xi xj h =
    let h0 = or_parts a (b || (c || (d || (e || (f || (g || (i || j))))))) h in
    let h1 = or_parts b (c || (d || (e || (f || (g || (i || j)))))) h0.1 in
    let h2 = or_parts c (d || (e || (f || (g || (i || j))))) h1.1 in
    let h3 = or_parts d (e || (f || (g || (i || j)))) h2.1 in
    let h4 = or_parts e (f || (g || (i || j))) h3.1 in
    let h5 = or_parts f (g || (i || j)) h4.1 in
    let h6 = or_parts g (i || j) h5.1 in
    let h7 = or_parts i j h6.1 in
    rw (h0.0, h1.0, h2.0, h3.0, h4.0, h5.0, h6.0, h7.0, h7.1) refl

none_of_four : (a b c d : Bool) (xa xb xc xd : Fixed) → (a || (b || (c || d))) ≡ false → cond a (Some xa) (cond b (Some xb) (cond c (Some xc) (cond d (Some xd) None))) ≡ None
none_of_four a b c d xa xb xc xd h =
    let h0 = or_parts a (b || (c || d)) h in
    let h1 = or_parts b (c || d) h0.1 in
    let h2 = or_parts c d h1.1 in
    rw (h0.0, h1.0, h2.0, h2.1) refl

no_clause_keyword : (w : List ℕ) → is_clause_word w ≡ false → clause_keyword w ≡ None
no_clause_keyword w h = none_of_nine (same_word w (codes "FROM")) (same_word w (codes "WHERE")) (same_word w (codes "AND")) (same_word w (codes "ORDER")) (same_word w (codes "BY")) (same_word w (codes "LIMIT")) (same_word w (codes "INTO")) (same_word w (codes "VALUES")) (same_word w (codes "SET")) fixed.From fixed.Where fixed.And fixed.Order fixed.By fixed.Limit fixed.Into fixed.Values fixed.Set h

no_action_keyword : (w : List ℕ) → is_action_word w ≡ false → action_keyword w ≡ None
no_action_keyword w h = none_of_four (same_word w (codes "SELECT")) (same_word w (codes "INSERT")) (same_word w (codes "UPDATE")) (same_word w (codes "DELETE")) fixed.Select fixed.Insert fixed.Update fixed.Delete h

no_column_keyword : (w : List ℕ) → is_column_word w ≡ false → column_keyword w ≡ None
no_column_keyword w h = none_of_four (same_word w (codes "INT")) (same_word w (codes "TEXT")) (same_word w (codes "BYTES")) (same_word w (codes "KEY")) fixed.Int fixed.Text fixed.Bytes fixed.Key h

no_keyword : (w : List ℕ) → is_keyword w ≡ false → keyword w ≡ None
unfolding keyword
no_keyword w h =
    let one = or_parts (is_clause_word w) (is_action_word w || is_column_word w) h in
    let two = or_parts (is_action_word w) (is_column_word w) one.1 in
    rw (no_clause_keyword w one.0, no_action_keyword w two.0, no_column_keyword w two.1) refl

pub plain_word : (w : List ℕ) → is_keyword w ≡ false → word_token w ≡ token.Word w
plain_word w h = rw (no_keyword w h) refl

-- digits

digit_range : (c : ℕ) → is_ascii_digit c ≡ true → (48 ≤ c) × (c ≤ 57)
digit_range c h = let both = and_parts (nat_le 48 c) (nat_le c 57) h in (leb-true 48 c both.0, leb-true c 57 both.1)

digits_test : IsDigitsTest (λ (ds : List ℕ). list_all is_ascii_digit ds ≡ true)
digits_test = record {
  empty = refl;
  parts = λ c cs h. (digit_range c (and_parts (is_ascii_digit c) (list_all is_ascii_digit cs) h).0, (and_parts (is_ascii_digit c) (list_all is_ascii_digit cs) h).1);
  more = λ c cs r h. and_from (is_ascii_digit c) (list_all is_ascii_digit cs) (and_from (nat_le 48 c) (nat_le c 57) (le-leb 48 c r.0) (le-leb c 57 r.1)) h;
}

own : IsNumeralModel (λ (ds : List ℕ). list_all is_ascii_digit ds ≡ true) (λ (ds : List ℕ). decimal_value ds)
own = numerals_by_value (λ (ds : List ℕ). list_all is_ascii_digit ds ≡ true) digits_test

no_first_byte : (d : ℕ) → is_ascii_digit d ≡ true → is_first_byte d ≡ false
no_first_byte d h =
    let range = digit_range d h in
    let lower : (nat_le 97 d && nat_le d 122) ≡ false = and_left (nat_le 97 d) (nat_le d 122) (lt-leb 97 d (omega arith)) in
    let upper : (nat_le 65 d && nat_le d 90) ≡ false = and_left (nat_le 65 d) (nat_le d 90) (lt-leb 65 d (omega arith)) in
    let line : (d == 95) ≡ false = ne_eqb d 95 (λ (e : d ≡ 95). omega arith) in
    or_from (is_letter d) (d == 95) (or_from (nat_le 97 d && nat_le d 122) (nat_le 65 d && nat_le d 90) lower upper) line

-- digits that write a number
pub record Writes (ds : List ℕ) (n : ℕ) : Type 0 where
  pub are_digits : list_all is_ascii_digit ds ≡ true
  pub value : decimal_value ds ≡ n
  pub some : 0 < length ds

pub written : (n : ℕ) → n < 2 ^ 64 → Writes (fmt.decimal n) n
written n h = record { are_digits = digits_decimal own n h; value = digits_value-decimal own n h; some = decimal_nonempty n h }

positive_found : (ds rest : List ℕ) (n : ℕ) → Writes ds n → n < 2 ^ 63 → Stop rest → positive_at (ds ++ rest) ≡ Some (token.Literal (value.Int (pos n)), length ds)
positive_found ds rest n w below s =
    let count : prefix_len is_ascii_digit (ds ++ rest) ≡ length ds = prefix_all is_ascii_digit ds rest w.are_digits (no_digit rest s) in
    rw (count, take_at ds rest (length ds) refl, w.value, lt-ltb n (2 ^ 63) below) refl

second_chosen : {A : Type 0} (a b : Bool) (x y z : A) → a ≡ false → b ≡ true → cond a x (cond b y z) ≡ y
second_chosen a b x y z h k = rw (h, k) refl

digit_begins : (d : ℕ) (more : List ℕ) → is_ascii_digit d ≡ true → token_at (d ∷ more) ≡ positive_at (d ∷ more)
unfolding token_at
digit_begins d more h =
    second_chosen (is_first_byte d) (is_ascii_digit d) (word_or_bytes_at (d ∷ more)) (positive_at (d ∷ more))
    (if d == 45 then negative_at more else if d == 63 then parameter_at more else if d == 39 then text_at more else sign_at d more) (no_first_byte d h) h

pub positive_again : (ds rest : List ℕ) (n : ℕ) → Writes ds n → n < 2 ^ 63 → Stop rest → token_at (ds ++ rest) ≡ Some (token.Literal (value.Int (pos n)), length ds)
positive_again [] rest n w below s = absurd (omega (arith, w.some))
positive_again (d ∷ more) rest n w below s =
    digit_begins d (more ++ rest) (and_parts (is_ascii_digit d) (list_all is_ascii_digit more) w.are_digits).0 ∙ positive_found (d ∷ more) rest n w below s

pub negative_again : (ds rest : List ℕ) (n : ℕ) → Writes ds (suc n) → n < 2 ^ 63 → Stop rest → token_at (45 ∷ (ds ++ rest)) ≡ Some (token.Literal (value.Int (negsuc n)), suc (length ds))
unfolding token_at
negative_again ds rest n w below s =
    let count : prefix_len is_ascii_digit (ds ++ rest) ≡ length ds = prefix_all is_ascii_digit ds rest w.are_digits (no_digit rest s) in
    let one : 1 + length ds ≡ suc (length ds) = omega arith in
    rw (count, take_at ds rest (length ds) refl, w.value, ne_eqb (length ds) 0 (λ (e : length ds ≡ 0). omega (arith, w.some)), le-leb (suc n) (2 ^ 63) (omega arith), one) refl

pub parameter_again : (ds rest : List ℕ) (n : ℕ) → Writes ds n → n < 2 ^ 64 → Stop rest → token_at (63 ∷ (ds ++ rest)) ≡ Some (token.Parameter n, suc (length ds))
unfolding token_at
parameter_again ds rest n w below s =
    let count : prefix_len is_ascii_digit (ds ++ rest) ≡ length ds = prefix_all is_ascii_digit ds rest w.are_digits (no_digit rest s) in
    let one : 1 + length ds ≡ suc (length ds) = omega arith in
    let low : min n (2 ^ 64 - 1) ≡ n = omega arith in
    rw (count, take_at ds rest (length ds) refl, w.value, ne_eqb (length ds) 0 (λ (e : length ds ≡ 0). omega (arith, w.some)), low, one) refl

-- texts

quoted_end : (rest : List ℕ) → Stop rest → quoted_from true rest ≡ Some ([], 0)
quoted_end rest end = refl
quoted_end rest (blank more) = refl
quoted_end rest (close more) = refl
quoted_end rest (comma more) = refl
quoted_end rest (dot more) = refl

quoted_more : (b : ℕ) (more rest : List ℕ) (is_quote : Bool) → (b == 39) ≡ is_quote → quoted_from false (doubled more ++ (39 ∷ rest)) ≡ Some (more, length (doubled more) + 1)
    → quoted_from false (doubled (b ∷ more) ++ (39 ∷ rest)) ≡ Some (b ∷ more, length (doubled (b ∷ more)) + 1)
quoted_more b more rest true e h =
    let n : 1 + (1 + (length (doubled more) + 1)) ≡ suc (suc (length (doubled more))) + 1 = omega arith in
    rw (e, h, n) (ap (λ (x : ℕ). Some (x ∷ more, suc (suc (length (doubled more))) + 1)) (sym (eqb-true b 39 e)))
quoted_more b more rest false e h =
    let n : 1 + (length (doubled more) + 1) ≡ suc (length (doubled more)) + 1 = omega arith in
    rw (e, e, h, n) refl

quoted_again : (t rest : List ℕ) → Stop rest → quoted_from false (doubled t ++ (39 ∷ rest)) ≡ Some (t, length (doubled t) + 1)
quoted_again [] rest s = rw (quoted_end rest s) refl
quoted_again (b ∷ more) rest s = quoted_more b more rest (b == 39) refl (quoted_again more rest s)

pub text_again : (t rest : List ℕ) → is_utf8 t ≡ true → Stop rest → token_at (value_text (value.Text t) ++ rest) ≡ Some (token.Literal (value.Text t), length (value_text (value.Text t)))
unfolding token_at
text_again t rest h s =
    let n : 1 + (length (doubled t) + 1) ≡ suc (length (doubled t) + 1) = omega arith in
    rw (append_assoc (doubled t) (39 ∷ []) rest, quoted_again t rest s, length-append (doubled t) (39 ∷ []), h, n) refl

-- bytes

hex_low : (d : ℕ) → d < 10 → hex_digit_value (hex_digit d) ≡ Some d
hex_low d h =
    let value : (48 + d) - 48 ≡ d = omega arith in
    rw (lt-ltb d 10 h, lt-leb 65 (48 + d) (omega arith), lt-leb 97 (48 + d) (omega arith), le-leb 48 (48 + d) (omega arith), le-leb (48 + d) 57 (omega arith), value) refl

hex_high : (d : ℕ) → d < 16 → 10 ≤ d → hex_digit_value (hex_digit d) ≡ Some d
hex_high d h low =
    let value : (87 + d) - 87 ≡ d = omega arith in
    rw (le-ltb d 10 low, le-leb 65 (87 + d) (omega arith), lt-leb (87 + d) 70 (omega arith), le-leb 97 (87 + d) (omega arith), le-leb (87 + d) 102 (omega arith), value) refl

hex_again : (d : ℕ) → d < 16 → hex_digit_value (hex_digit d) ≡ Some d
hex_again d h = ⊎_elim (hex_low d) (hex_high d h) (cases_lt d 10)

hex_no_quote : (d : ℕ) → (hex_digit d == 39) ≡ false
hex_no_quote d = ⊎_elim low high (cases_lt d 10)
  where
    low : d < 10 → (hex_digit d == 39) ≡ false
    low h = rw (lt-ltb d 10 h) (ne_eqb (48 + d) 39 (λ (e : 48 + d ≡ 39). omega arith))

    high : 10 ≤ d → (hex_digit d == 39) ≡ false
    high h = rw (le-ltb d 10 h) (ne_eqb (87 + d) 39 (λ (e : 87 + d ≡ 39). omega arith))

hexadecimal_again : (b rest : List ℕ) → list_all is_byte b ≡ true → hexadecimal_from None (hex b ++ (39 ∷ rest)) ≡ Some (b, length (hex b) + 1)
hexadecimal_again [] rest h = refl
hexadecimal_again (x ∷ more) rest h =
    let both = and_parts (is_byte x) (list_all is_byte more) h in
    let below : x < 256 = ltb-true x 256 both.0 in
    let whole : x / 16 * 16 + x % 16 ≡ x = omega arith in
    let n : 1 + (1 + (length (hex more) + 1)) ≡ suc (suc (length (hex more))) + 1 = omega arith in
    rw (hex_no_quote (x / 16), hex_again (x / 16) (omega arith), hex_again (x % 16) (omega arith), hexadecimal_again more rest both.1, whole, n) refl

bytes_begin : (more : List ℕ) → token_at (120 ∷ 39 ∷ more) ≡ bytes_at more
unfolding token_at
bytes_begin more = rw (le-leb 2 (suc (suc (length more))) (omega arith)) refl

pub bytes_again : (b rest : List ℕ) → list_all is_byte b ≡ true → token_at (value_text (value.Bytes b) ++ rest) ≡ Some (token.Literal (value.Bytes b), length (value_text (value.Bytes b)))
bytes_again b rest h =
    let n : 2 + (length (hex b) + 1) ≡ suc (suc (length (hex b) + 1)) = omega arith in
    let found : bytes_at (hex b ++ (39 ∷ rest)) ≡ Some (token.Literal (value.Bytes b), suc (suc (length (hex b) + 1))) = rw (hexadecimal_again b rest h, n) refl in
    bytes_begin ((hex b ++ 39 ∷ []) ++ rest) ∙ rw (append_assoc (hex b) (39 ∷ []) rest, length-append (hex b) (39 ∷ [])) found

-- keywords and signs

keyword_again : (w : List ℕ) (f : Fixed) (rest : List ℕ) → is_word w ≡ true → word_token w ≡ token.Fixed f → Stop rest → token_at (w ++ rest) ≡ Some (token.Fixed f, length w)
keyword_again w f rest h e s = word_again w rest h s ∙ ap (λ (t : Token). Some (t, length w)) e

below_again : (rest : List ℕ) → Stop rest → token_at (60 ∷ rest) ≡ Some (token.Fixed fixed.Below, 1)
unfolding token_at
below_again rest end = refl
below_again rest (blank more) = refl
below_again rest (close more) = refl
below_again rest (comma more) = refl
below_again rest (dot more) = refl

above_again : (rest : List ℕ) → Stop rest → token_at (62 ∷ rest) ≡ Some (token.Fixed fixed.Above, 1)
unfolding token_at
above_again rest end = refl
above_again rest (blank more) = refl
above_again rest (close more) = refl
above_again rest (comma more) = refl
above_again rest (dot more) = refl

pub fixed_again : (f : Fixed) (rest : List ℕ) → not (same_fixed f fixed.End) ≡ true → Stop rest → token_at (fixed_text f ++ rest) ≡ Some (token.Fixed f, length (fixed_text f))
unfolding fixed_text token_at keyword
fixed_again fixed.Select rest h s = keyword_again (codes "SELECT") fixed.Select rest refl refl s
fixed_again fixed.From rest h s = keyword_again (codes "FROM") fixed.From rest refl refl s
fixed_again fixed.Where rest h s = keyword_again (codes "WHERE") fixed.Where rest refl refl s
fixed_again fixed.And rest h s = keyword_again (codes "AND") fixed.And rest refl refl s
fixed_again fixed.Order rest h s = keyword_again (codes "ORDER") fixed.Order rest refl refl s
fixed_again fixed.By rest h s = keyword_again (codes "BY") fixed.By rest refl refl s
fixed_again fixed.Limit rest h s = keyword_again (codes "LIMIT") fixed.Limit rest refl refl s
fixed_again fixed.Insert rest h s = keyword_again (codes "INSERT") fixed.Insert rest refl refl s
fixed_again fixed.Into rest h s = keyword_again (codes "INTO") fixed.Into rest refl refl s
fixed_again fixed.Values rest h s = keyword_again (codes "VALUES") fixed.Values rest refl refl s
fixed_again fixed.Update rest h s = keyword_again (codes "UPDATE") fixed.Update rest refl refl s
fixed_again fixed.Set rest h s = keyword_again (codes "SET") fixed.Set rest refl refl s
fixed_again fixed.Delete rest h s = keyword_again (codes "DELETE") fixed.Delete rest refl refl s
fixed_again fixed.Int rest h s = keyword_again (codes "INT") fixed.Int rest refl refl s
fixed_again fixed.Text rest h s = keyword_again (codes "TEXT") fixed.Text rest refl refl s
fixed_again fixed.Bytes rest h s = keyword_again (codes "BYTES") fixed.Bytes rest refl refl s
fixed_again fixed.Key rest h s = keyword_again (codes "KEY") fixed.Key rest refl refl s
fixed_again fixed.Open rest h s = refl
fixed_again fixed.Close rest h s = refl
fixed_again fixed.Comma rest h s = refl
fixed_again fixed.Dot rest h s = refl
fixed_again fixed.Equal rest h s = refl
fixed_again fixed.Differs rest h s = refl
fixed_again fixed.Below rest h s = below_again rest s
fixed_again fixed.AtMost rest h s = refl
fixed_again fixed.Above rest h s = above_again rest s
fixed_again fixed.AtLeast rest h s = refl
fixed_again fixed.End rest h s = absurd (false≢true h)
