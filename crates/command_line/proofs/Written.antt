-- Words that are numbers.
use Rattle.std.proofs.Common.{◌≡◌, ◌∙◌, ℕ, ◌<◌, ◌≤◌, ◌^◌, Bool, true, false, not, ◌&&◌, ◌||◌, List, length, refl, sym, subst, arith, Result, Ok, Err, Some, None, get_or, ap, suc, zero}
use Rattle.std.specs.Prelude.{◌==◌, nat_le, slice_index, if◌then◌else◌}
use Rattle.std.specs.Char.{is_ascii_digit}
use Rattle.std.specs.Fmt as fmt
use Rattle.std.specs.List.{list_all}
use Rattle.std.specs.Str.Parse.{ParsesUnsigned}
use Rattle.std.proofs.lemmas.Bool.{and_parts, and_from, le-leb, leb-true, eqb-true}
use Rattle.std.proofs.lemmas.Fmt.{decimal-digits_value, decimal_digit, decimal_nonempty, digits_decimal, digits_value-decimal, first_decimal}
use Rattle.std.proofs.lemmas.Str.Parse.{IsNumeralModel, IsDigitsTest, numerals_by_value, parse_digits, parse_gives}
use Rattle.plain_text.specs.Decimals.{decimal_value, is_numeral}
use Rattle.command_line.specs.Numbers.{is_plain, number_in}

digit_range : (c : ℕ) → is_ascii_digit c ≡ true → (48 ≤ c) × (c ≤ 57)
digit_range c h = let both = and_parts (nat_le 48 c) (nat_le c 57) h in (leb-true 48 c both.0, leb-true c 57 both.1)

digits_test : IsDigitsTest (λ (ds : List ℕ). list_all is_ascii_digit ds ≡ true)
digits_test = record {
  empty = refl;
  parts = λ c cs h. (digit_range c (and_parts (is_ascii_digit c) (list_all is_ascii_digit cs) h).0, (and_parts (is_ascii_digit c) (list_all is_ascii_digit cs) h).1);
  more = λ c cs r h. and_from (is_ascii_digit c) (list_all is_ascii_digit cs) (and_from (nat_le 48 c) (nat_le c 57) (le-leb 48 c r.0) (le-leb c 57 r.1)) h;
}

own : IsNumeralModel (λ (ds : List ℕ). list_all is_ascii_digit ds ≡ true) (λ (ds : List ℕ). decimal_value ds)
own = numerals_by_value (λ (ds : List ℕ). list_all is_ascii_digit ds ≡ true) digits_test

-- what a plain number has
record Plain (ds : List ℕ) : Type 0 where
  some : 0 < length ds
  digits : list_all is_ascii_digit ds ≡ true
  leading : get_or ds 0 0 ≡ 48 → length ds ≡ 1

first_means : (a b : Bool) → (a || not b) ≡ true → b ≡ true → a ≡ true
first_means true b h k = refl
first_means false true h k = h
first_means false false h k = k

first_meant : (a b : Bool) → (b ≡ true → a ≡ true) → (a || not b) ≡ true
first_meant true b f = refl
first_meant false true f = f refl
first_meant false false f = refl

plain_parts : (ds : List ℕ) → is_plain ds ≡ true → Plain ds
plain_parts ds h =
    let both = and_parts (is_numeral ds) ((length ds == 1) || not (slice_index ds 0 == 48)) h in
    let digits = and_parts (nat_le 1 (length ds)) (list_all is_ascii_digit ds) both.0 in
    record {
      some = leb-true 1 (length ds) digits.0;
      digits = digits.1;
      leading = λ e. eqb-true (length ds) 1 (first_means (length ds == 1) (slice_index ds 0 == 48) both.1 (ap (λ (b : ℕ). b == 48) e));
    }

plain_from : (ds : List ℕ) → Plain ds → is_plain ds ≡ true
plain_from ds h =
    and_from (is_numeral ds) ((length ds == 1) || not (slice_index ds 0 == 48)) (and_from (nat_le 1 (length ds)) (list_all is_ascii_digit ds) (le-leb 1 (length ds) h.some) h.digits)
    (first_meant (length ds == 1) (slice_index ds 0 == 48) (λ (t : (slice_index ds 0 == 48) ≡ true). ap (λ (n : ℕ). n == 1) (h.leading (eqb-true (slice_index ds 0) 48 t))))

-- each number is written plainly
plain_decimal : (n : ℕ) → n < 2 ^ 64 → is_plain (fmt.decimal n) ≡ true
plain_decimal zero h = rw (decimal_digit 0 (omega arith)) refl
plain_decimal (suc n) h =
    let first : 48 < get_or (fmt.decimal (suc n)) 0 0 = first_decimal (suc n) (omega arith) h in
    plain_from (fmt.decimal (suc n)) (record { some = decimal_nonempty (suc n) h; digits = digits_decimal own (suc n) h; leading = λ e. absurd (omega (arith, first, e)) })

-- a plain number that was read is the one that is written
pub read_is : {E : Type 0} (word : List ℕ) (n : ℕ) (r : Result ℕ E) → is_plain word ≡ true → r ≡ Ok n → ParsesUnsigned 64 10 word r → decimal_value word ≡ n
read_is {E} word n r h e p =
    let plain = plain_parts word h in
    let found : ParsesUnsigned {E = E} 64 10 word (Ok n) = subst (λ (s : Result ℕ E). ParsesUnsigned {E = E} 64 10 word s) e p in
    let read = parse_digits own {E = E} 64 word (Ok n) found plain.digits in
    sym read.1

-- a plain number that was not read is too great
pub unread : {E : Type 0} (word : List ℕ) (e : E) (r : Result ℕ E) → is_plain word ≡ true → r ≡ Err e → ParsesUnsigned 64 10 word r → decimal_value word < 2 ^ 64 → ⊥
unread {E} word e r h is p lt =
    let plain = plain_parts word h in
    let found : r ≡ Ok (decimal_value word) = parse_gives own {E = E} 64 word r p plain.digits plain.some lt in
    cc

-- a number that is plain is one of these, or none
pub number_in_some : (least most n : ℕ) (word : List ℕ) (within : Bool) → is_plain word ≡ true → decimal_value word ≡ n → (nat_le least n && nat_le n most) ≡ within →
    number_in least most word ≡ (if within then Some n else None)
number_in_some least most n word within plain e h = rw (plain, e, h) refl

-- a number that is found is written so, and is one of these
pub found_is_written : (least most n : ℕ) (word : List ℕ) → most < 2 ^ 64 → number_in least most word ≡ Some n → (word ≡ fmt.decimal n) × (least ≤ n) × (n ≤ most)
found_is_written least most n word fits h = go (is_plain word && (nat_le least (decimal_value word) && nat_le (decimal_value word) most)) refl
  where
    go : (t : Bool) → (is_plain word && (nat_le least (decimal_value word) && nat_le (decimal_value word) most)) ≡ t → (word ≡ fmt.decimal n) × (least ≤ n) × (n ≤ most)
    go false e = let none : None ≡ Some n = rw e at h in cc
    go true e =
        let some : Some (decimal_value word) ≡ Some n = rw e at h in
        let value : decimal_value word ≡ n = cc in
        let both = and_parts (is_plain word) (nat_le least (decimal_value word) && nat_le (decimal_value word) most) e in
        let bounds = and_parts (nat_le least (decimal_value word)) (nat_le (decimal_value word) most) both.1 in
        let low : least ≤ decimal_value word = leb-true least (decimal_value word) bounds.0 in
        let high : decimal_value word ≤ most = leb-true (decimal_value word) most bounds.1 in
        let plain = plain_parts word both.0 in
        (sym (ap fmt.decimal (sym value) ∙ decimal-digits_value own word plain.digits plain.some plain.leading (omega (arith, high, fits))), omega (arith, low, value), omega (arith, high, value))

-- a number that is one of these is found where it is written
pub written_is_found : (least most n : ℕ) → most < 2 ^ 64 → least ≤ n → n ≤ most → number_in least most (fmt.decimal n) ≡ Some n
written_is_found least most n fits low high =
    let small : n < 2 ^ 64 = omega (arith, high, fits) in
    number_in_some least most n (fmt.decimal n) true (plain_decimal n small) (digits_value-decimal own n small) (and_from (nat_le least n) (nat_le n most) (le-leb least n low) (le-leb n most high))
