-- Words of plain bytes, and lines of such words.
use Rattle.std.proofs.Common.{◌≡◌, ℕ, zero, suc, ◌<◌, Bool, true, false, ◌&&◌, not, List, [], ◌∷◌, ◌++◌, length, refl, ap, ◌∙◌, arith, nat_le, ◌==◌, get_or, ◌-◌, take, cond}
use Rattle.std.specs.Prelude.{filter}
use Rattle.std.specs.List.{list_all, join_with_byte, slice_split, All}
use Rattle.std.specs.Char.{is_ascii_digit}
use Rattle.std.specs.Int.{IsInRange}
use Rattle.std.specs.Str.{is_utf8, IsAscii}
use Rattle.std.specs.Str.Lines.{lines_of_parts, strip_carriage_return}
use Rattle.std.specs.Str.Parse.{AllDigits}
use Rattle.std.proofs.lemmas.Bool.{and_parts, and_from, leb-true}
use Rattle.std.proofs.lemmas.Bool.Decides.{nat_tests}
use Rattle.std.proofs.lemmas.Grind.{common_steps}
use Rattle.std.proofs.lemmas.List.Sums.{AllPass-from_list_all, list_all-from_AllPass}
use Rattle.std.proofs.lemmas.List.Splits.{slice_split_none, slice_split_at}
use Rattle.std.proofs.lemmas.Str.{IsUtf8-from_ascii, is_utf8-from_IsUtf8}
use Rattle.std.proofs.lemmas.Str.Parse.{digit_at}
use Rattle.hex.specs.Hex.{is_hex_digit, encode_lower, IsBytes}
use Rattle.hex.proofs.HexLemmas.{decode_of-ok, decode_of-encode_lower}
use Rattle.okws_base.specs.Names.{is_name, is_name_byte}
use Rattle.okws_base.specs.declared.limit.TheConstants.{LONGEST_NAME}
use Rattle.http_text.specs.Target as http
use Rattle.plain_text.specs.Parts.{is_byte}
use Rattle.plain_text.specs.Words.{words, is_blank, is_word}
use Rattle.plain_text.proofs.FirstWord.{word_first}
use Rattle.plain_text.proofs.Parted.{before_others, has_part}
use Rattle.play_script.specs.Lines.{script_lines}
use Rattle.play_script.proofs.Targets.{list_all-map, list_all-both}

-- A byte 33 to 126.
abbrev pub is_graphic : ℕ → Bool
is_graphic b = nat_le 33 b && nat_le b 126

-- A byte 32 to 126.
abbrev pub is_shown : ℕ → Bool
is_shown b = nat_le 32 b && nat_le b 126

pub record IsPlain (word : List ℕ) : Type 0 where
  pub some : 0 < length word
  pub graphic : list_all is_graphic word ≡ true

abbrev pub AllPlain : List (List ℕ) → Type 0
AllPlain [] = Unit {0}
AllPlain (word ∷ more) = IsPlain word × AllPlain more

no_blank : (b : ℕ) → is_graphic b ≡ true → is_blank b ≡ false
no_blank b h = grind (arith, nat_tests)

shown : (b : ℕ) → is_graphic b ≡ true → is_shown b ≡ true
shown b h = grind (arith, nat_tests)

no_blanks : (word : List ℕ) → list_all is_graphic word ≡ true → All (λ b. is_blank b ≡ false) word
no_blanks word h = let pass = AllPass-from_list_all is_graphic word h in λ k d below. no_blank (get_or word k d) (pass k d below)

-- the words of a line of plain words are these
pub words_joined : (word : List ℕ) (more : List (List ℕ)) → IsPlain word → AllPlain more → words (join_with_byte 32 (word ∷ more)) ≡ word ∷ more
words_joined word [] h hs =
    ap (λ pieces. filter is_word pieces) (slice_split_none is_blank word (no_blanks word h.graphic)) ∙ word_first word [] h.some
words_joined word (next ∷ more) h hs =
    let rest = join_with_byte 32 (next ∷ more) in
    ap (λ pieces. filter is_word pieces) (slice_split_at is_blank word 32 rest (no_blanks word h.graphic) refl)
    ∙ word_first word (slice_split is_blank rest) h.some
    ∙ ap (λ (ws : List (List ℕ)). word ∷ ws) (words_joined next more hs.0 hs.1)

shown_bytes : (word : List ℕ) → list_all is_graphic word ≡ true → list_all is_shown word ≡ true
shown_bytes word h = list_all-map is_graphic is_shown shown word h

pub shown_joined : (ws : List (List ℕ)) → AllPlain ws → list_all is_shown (join_with_byte 32 ws) ≡ true
shown_joined [] h = refl
shown_joined (word ∷ []) h = shown_bytes word h.0.graphic
shown_joined (word ∷ next ∷ more) h = list_all-both is_shown word (32 ∷ join_with_byte 32 (next ∷ more)) (shown_bytes word h.0.graphic) (shown_joined (next ∷ more) h.1)

ascii : (bytes : List ℕ) → list_all is_shown bytes ≡ true → IsAscii bytes
ascii [] h i = omega arith
ascii (b ∷ more) h zero =
    let first = (and_parts (is_shown b) (list_all is_shown more) h).0 in
    let e = leb-true b 126 ((and_parts (nat_le 32 b) (nat_le b 126) first).1) in
    omega (arith, e)
ascii (b ∷ more) h (suc i) = ascii more ((and_parts (is_shown b) (list_all is_shown more) h).1) i

-- a line of plain words is a text
pub text_joined : (ws : List (List ℕ)) → AllPlain ws → is_utf8 (join_with_byte 32 ws) ≡ true
text_joined ws h = let line = join_with_byte 32 ws in is_utf8-from_IsUtf8 line (IsUtf8-from_ascii line (ascii line (shown_joined ws h)))

no_end : (b : ℕ) → is_shown b ≡ true → is_byte 10 b ≡ false
no_end b h = grind (arith, nat_tests)

no_return : (b : ℕ) → is_shown b ≡ true → (b == 13) ≡ false
no_return b h = grind (arith, nat_tests)

-- a line that ends in no carriage return keeps all its bytes
kept : (bytes : List ℕ) → list_all is_shown bytes ≡ true → strip_carriage_return bytes ≡ bytes
kept [] h = refl
kept (b ∷ more) h =
    let last = no_return _ (AllPass-from_list_all is_shown (b ∷ more) h (length (b ∷ more) - 1) 0 (omega arith)) in
    ap (λ t. cond t (take (length (b ∷ more) - 1) (b ∷ more)) (b ∷ more)) last

-- shown bytes with an LF behind them are a line
pub shown_line : (bytes rest : List ℕ) → list_all is_shown bytes ≡ true → script_lines (bytes ++ 10 ∷ rest) ≡ bytes ∷ script_lines rest
shown_line bytes rest h =
    let pass = AllPass-from_list_all is_shown bytes h in
    let split = slice_split_at (is_byte 10) bytes 10 rest (λ k d below. no_end (get_or bytes k d) (pass k d below)) refl in
    ap (λ parts. lines_of_parts parts) split ∙ before_others bytes (slice_split (is_byte 10) rest) (has_part rest) ∙ ap (λ (line : List ℕ). line ∷ script_lines rest) (kept bytes h)

name_byte : (b : ℕ) → is_name_byte b ≡ true → is_graphic b ≡ true
name_byte b h = grind (arith, nat_tests)

pub plain_name : (name : List ℕ) → is_name name ≡ true → IsPlain name
plain_name name h =
    let some = and_parts (nat_le 1 (length name)) (nat_le (length name) LONGEST_NAME && list_all is_name_byte name) h in
    let few = and_parts (nat_le (length name) LONGEST_NAME) (list_all is_name_byte name) some.1 in
    record { some = leb-true 1 (length name) some.0; graphic = list_all-map is_name_byte is_graphic name_byte name few.1 }

hex_digit : (b : ℕ) → is_hex_digit b ≡ true → is_graphic b ≡ true
hex_digit b h = grind (arith, nat_tests)

pub plain_bytes : (bytes : List ℕ) → 0 < length bytes → IsBytes bytes → IsPlain (encode_lower bytes)
plain_bytes bytes some h =
    let read = decode_of-ok (encode_lower bytes) bytes (decode_of-encode_lower bytes h) in
    record { some = omega (arith, read.2); graphic = list_all-map is_hex_digit is_graphic hex_digit (encode_lower bytes) (list_all-from_AllPass is_hex_digit (encode_lower bytes) read.1) }

digit_test : (d : ℕ) → IsInRange 48 57 d → is_ascii_digit d ≡ true
digit_test d h = grind (arith, common_steps)

pub digits : (ds : List ℕ) → AllDigits 10 ds → list_all is_ascii_digit ds ≡ true
digits [] h = refl
digits (d ∷ more) h =
    let range : IsInRange 48 57 d = digit_at (d ∷ more) 0 h (omega arith) in
    and_from (is_ascii_digit d) (list_all is_ascii_digit more) (digit_test d range) (digits more h.1)

digit_byte : (b : ℕ) → is_ascii_digit b ≡ true → is_graphic b ≡ true
digit_byte b h = grind (arith, nat_tests)

pub plain_digits : (ds : List ℕ) → 0 < length ds → AllDigits 10 ds → IsPlain ds
plain_digits ds some h = record { some = some; graphic = list_all-map is_ascii_digit is_graphic digit_byte ds (digits ds h) }

target_byte : (b : ℕ) → http.is_target_byte b ≡ true → is_graphic b ≡ true
target_byte b h =
    let parts = and_parts (nat_le 33 b) (nat_le b 126 && not (b == 35)) h in
    and_from (nat_le 33 b) (nat_le b 126) parts.0 ((and_parts (nat_le b 126) (not (b == 35)) parts.1).0)

pub plain_target : (target : List ℕ) → 0 < length target → list_all http.is_target_byte target ≡ true → IsPlain target
plain_target target some h = record { some = some; graphic = list_all-map http.is_target_byte is_graphic target_byte target h }
