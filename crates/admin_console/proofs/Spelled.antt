-- What the texts of commands are read as.
use Rattle.std.proofs.Common.{◌≡◌, ℕ, ◌<◌, ◌≤◌, ◌^◌, Bool, true, false, ◌&&◌, List, [], ◌∷◌, length, Some, refl, ap, ◌∙◌, arith, nat_le, get_or, codes, lit<, length-append}
use Rattle.std.specs.Prelude.{filter, decimal, nat_lt, if◌then◌else◌}
use Rattle.std.specs.List.{list_all, join_with_byte, slice_split, All}
use Rattle.std.specs.Char.{is_ascii_digit}
use Rattle.std.specs.Int.{IsInRange}
use Rattle.std.specs.Str.Parse.{AllDigits}
use Rattle.std.proofs.lemmas.Bool.{and_parts, and_from, leb-true, le-leb}
use Rattle.std.proofs.lemmas.Bool.Decides.{nat_tests}
use Rattle.std.proofs.lemmas.Fmt.{decimal_is_IsNumeral, length-decimal-le}
use Rattle.std.proofs.lemmas.Grind.{common_steps}
use Rattle.std.proofs.lemmas.List.Sums.{AllPass-from_list_all}
use Rattle.std.proofs.lemmas.List.Splits.{slice_split_none, slice_split_at}
use Rattle.std.proofs.lemmas.Str.Parse.{digit_at}
use Rattle.okws_base.specs.Names.{is_name, is_name_byte}
use Rattle.okws_base.specs.declared.limit.TheConstants.{LONGEST_NAME}
use Rattle.okws_plan.specs.declared.configuration.Config.{Config}
use Rattle.plain_text.specs.Decimals.{is_number, number}
use Rattle.plain_text.specs.Words.{words, is_blank, is_word}
use Rattle.plain_text.proofs.FirstWord.{word_first}
use Rattle.admin_console.specs.Orders.{order_of, words_order, no_command}
use Rattle.admin_console.specs.Spelling.{CommandsAreRead, publish_text, relaunch_text}
use Rattle.admin_console.specs.declared.order.TheConstants.{LONGEST_COMMAND}

-- A byte 33 to 126.
abbrev pub is_graphic : ℕ → Bool
is_graphic b = nat_le 33 b && nat_le b 126

record IsPlain (word : List ℕ) : Type 0 where
  some : 0 < length word
  graphic : list_all is_graphic word ≡ true

abbrev AllPlain : List (List ℕ) → Type 0
AllPlain [] = Unit {0}
AllPlain (word ∷ more) = IsPlain word × AllPlain more

no_blank : (b : ℕ) → is_graphic b ≡ true → is_blank b ≡ false
no_blank b h = grind (arith, nat_tests)

no_blanks : (word : List ℕ) → list_all is_graphic word ≡ true → All (λ b. is_blank b ≡ false) word
no_blanks word h = let pass = AllPass-from_list_all is_graphic word h in λ k d below. no_blank (get_or word k d) (pass k d below)

-- the words of a line of plain words are these
words_joined : (word : List ℕ) (more : List (List ℕ)) → IsPlain word → AllPlain more → words (join_with_byte 32 (word ∷ more)) ≡ word ∷ more
words_joined word [] h hs =
    ap (λ pieces. filter is_word pieces) (slice_split_none is_blank word (no_blanks word h.graphic)) ∙ word_first word [] h.some
words_joined word (next ∷ more) h hs =
    let rest = join_with_byte 32 (next ∷ more) in
    ap (λ pieces. filter is_word pieces) (slice_split_at is_blank word 32 rest (no_blanks word h.graphic) refl)
    ∙ word_first word (slice_split is_blank rest) h.some
    ∙ ap (λ (ws : List (List ℕ)). word ∷ ws) (words_joined next more hs.0 hs.1)

list_all-map : (p q : ℕ → Bool) → ((x : ℕ) → p x ≡ true → q x ≡ true) → (xs : List ℕ) → list_all p xs ≡ true → list_all q xs ≡ true
list_all-map p q more [] h = refl
list_all-map p q more (x ∷ xs) h = let parts = and_parts (p x) (list_all p xs) h in and_from (q x) (list_all q xs) (more x parts.0) (list_all-map p q more xs parts.1)

name_byte : (b : ℕ) → is_name_byte b ≡ true → is_graphic b ≡ true
name_byte b h = grind (arith, nat_tests)

record IsShort (name : List ℕ) : Type 0 where
  plain : IsPlain name
  short : length name ≤ LONGEST_NAME

short_name : (name : List ℕ) → is_name name ≡ true → IsShort name
short_name name h =
    let some = and_parts (nat_le 1 (length name)) (nat_le (length name) LONGEST_NAME && list_all is_name_byte name) h in
    let few = and_parts (nat_le (length name) LONGEST_NAME) (list_all is_name_byte name) some.1 in
    record {
      plain = record { some = leb-true 1 (length name) some.0; graphic = list_all-map is_name_byte is_graphic name_byte name few.1 };
      short = leb-true (length name) LONGEST_NAME few.0;
    }

digit_test : (d : ℕ) → IsInRange 48 57 d → is_ascii_digit d ≡ true
digit_test d h = grind (arith, common_steps)

digits : (ds : List ℕ) → AllDigits 10 ds → list_all is_ascii_digit ds ≡ true
digits [] h = refl
digits (d ∷ more) h =
    let range : IsInRange 48 57 d = digit_at (d ∷ more) 0 h (omega arith) in
    and_from (is_ascii_digit d) (list_all is_ascii_digit more) (digit_test d range) (digits more h.1)

digit_byte : (b : ℕ) → is_ascii_digit b ≡ true → is_graphic b ≡ true
digit_byte b h = grind (arith, nat_tests)

number_found : (n : ℕ) → n < 10 ^ 9 → number (decimal n) ≡ Some n
number_found n h =
    let numeral = decimal_is_IsNumeral n (omega arith) in
    let few = length-decimal-le 9 n (lit< tt) h (omega arith) in
    let is : is_number (decimal n) ≡ true = and_from (nat_le 1 (length (decimal n))) (nat_le (length (decimal n)) 9 && list_all is_ascii_digit (decimal n)) (le-leb 1 (length (decimal n)) numeral.0.0)
    (and_from (nat_le (length (decimal n)) 9) (list_all is_ascii_digit (decimal n)) (le-leb (length (decimal n)) 9 few) (digits (decimal n) numeral.0.1)) in
    rw is (ap Some numeral.1)

plain_number : (n : ℕ) → n < 10 ^ 9 → IsPlain (decimal n)
plain_number n h =
    let numeral = decimal_is_IsNumeral n (omega arith) in
    record { some = numeral.0.0; graphic = list_all-map is_ascii_digit is_graphic digit_byte (decimal n) (digits (decimal n) numeral.0.1) }

-- a short line is read by its words
read_words : (C : Config) (line : List ℕ) (ws : List (List ℕ)) → length line ≤ LONGEST_COMMAND → words line ≡ ws → order_of C line ≡ words_order C ws
unfolding order_of
read_words C line ws short is =
    let test : nat_lt LONGEST_COMMAND (length line) ≡ false = grind (arith, nat_tests) in
    ap (λ (b : Bool). if b then no_command else words_order C (words line)) test ∙ ap (words_order C) is

pub commands_are_read : CommandsAreRead
commands_are_read = record {
  publishes = λ C name size named below.
      let short = short_name name named in
      let few = length-decimal-le 9 size (lit< tt) below (omega arith) in
      let fits : length (publish_text name size) ≤ LONGEST_COMMAND = omega (arith, short.short, few, length-append name (32 ∷ decimal size)) in
      read_words C (publish_text name size) _ fits (words_joined (codes "publish") (name ∷ decimal size ∷ []) (record { some = lit< tt; graphic = refl }) (short.plain, (plain_number size below, tt))) ∙ rw (number_found size below) refl;
  relaunches = λ C name named.
      let short = short_name name named in
      let fits : length (relaunch_text name) ≤ LONGEST_COMMAND = omega (arith, short.short) in
      read_words C (relaunch_text name) _ fits (words_joined (codes "relaunch") (name ∷ []) (record { some = lit< tt; graphic = refl }) (short.plain, tt));
  surveys = λ C. read_words C (codes "status") _ (omega arith) (words_joined (codes "status") [] (record { some = lit< tt; graphic = refl }) tt);
  ends = λ C. read_words C (codes "end") _ (omega arith) (words_joined (codes "end") [] (record { some = lit< tt; graphic = refl }) tt);
  stops = λ C. read_words C (codes "stop") _ (omega arith) (words_joined (codes "stop") [] (record { some = lit< tt; graphic = refl }) tt);
}
