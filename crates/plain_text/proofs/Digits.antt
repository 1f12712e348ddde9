-- The numbers that decimal digits write.
use Rattle.std.proofs.Common.{◌≡◌, ℕ, ◌+◌, ◌*◌, ◌-◌, ◌<◌, ◌≤◌, ◌^◌, suc, min, true, false, ◌&&◌, Bool, List, [], ◌∷◌, length, take, arith, IsTrue, nat_le, slice_index_or, lit<, refl, ap, ◌∙◌, Some}
use Rattle.std.specs.List.{list_all, prefix_len}
use Rattle.std.specs.Char.{is_ascii_digit, digit_value}
use Rattle.std.specs.Int.{IsInRange}
use Rattle.std.specs.Str.Parse.{digits_value, AllDigits}
use Rattle.std.proofs.lemmas.Bool.{and_parts, and_from, leb-true}
use Rattle.std.proofs.lemmas.Int.Digits.{digits_value-lt, digits_value_more}
use Rattle.std.proofs.lemmas.List.Folds.{list_all_at}
use Rattle.std.proofs.lemmas.Str.{digit_value_digit}
use Rattle.std.proofs.lemmas.Grind.{common_steps}
use Rattle.std.proofs.Math.Nat.{pow-le-pow_right}
use Rattle.plain_text.specs.Decimals.{is_number, decimal_value, number}

in_range : (c : ℕ) → is_ascii_digit c ≡ true → IsInRange 48 57 c
in_range c h = grind (arith, common_steps)

digit_below : (c : ℕ) → is_ascii_digit c ≡ true → digit_value c < 10
digit_below c h = let range : IsInRange 48 57 c = in_range c h in omega (arith, digit_value_digit c range)

pub all_digits : (digits : List ℕ) → list_all is_ascii_digit digits ≡ true → AllDigits 10 digits
all_digits [] h = tt
all_digits (c ∷ cs) h = let parts = and_parts (is_ascii_digit c) (list_all is_ascii_digit cs) h in (digit_below c parts.0, all_digits cs parts.1)

-- where all are digits, so is each
digit_at : (digits : List ℕ) (i : ℕ) → IsTrue (list_all is_ascii_digit digits) → i < length digits → IsInRange 48 57 (slice_index_or digits i 0)
digit_at digits i all below = grind (arith, common_steps, list_all_at)

-- a number that was capped before its next digit is capped after it
next_capped : (cap value digit glyph so_far more next total : ℕ) → so_far ≡ min value cap → digit + 48 ≡ glyph → more ≡ min (so_far * 10) cap → next ≡ min (more + (glyph - 48)) cap → total ≡ value * 10 + digit
    → next ≡ min total cap
next_capped cap value digit glyph so_far more next total before glyph_is times plus whole = omega arith

pub one_digit_more : (cap : ℕ) (digits : List ℕ) (i so_far more digit next : ℕ) → IsTrue (list_all is_ascii_digit digits) → i < length digits → so_far ≡ min (decimal_value (take i digits)) cap
    → more ≡ min (so_far * 10) cap → digit ≡ slice_index_or digits i 0 - 48 → next ≡ min (more + digit) cap → next ≡ min (decimal_value (take (i + 1) digits)) cap
one_digit_more cap digits i so_far more digit next all below before times is plus =
    let glyph = slice_index_or digits i 0 in
    next_capped cap (digits_value 10 (take i digits)) (digit_value glyph) glyph so_far more next _ before (digit_value_digit glyph (digit_at digits i all below)) times (plus ∙ ap (λ n. min (more + n) cap) is) (digits_value_more 10 digits i below)

-- 1 to 9 digits write less than 10 to the ninth
value_below : (word : List ℕ) → is_number word ≡ true → decimal_value word < 10 ^ 9
value_below word h =
    let some = and_parts (nat_le 1 (length word)) (nat_le (length word) 9 && list_all is_ascii_digit word) h in
    let few = and_parts (nat_le (length word) 9) (list_all is_ascii_digit word) some.1 in
    let most : length word ≤ 9 = leb-true (length word) 9 few.0 in
    let value = digits_value-lt 10 word (all_digits word few.1) in
    let power : 10 ^ length word ≤ 10 ^ 9 = pow-le-pow_right (lit< tt) most in
    omega (arith, value, power)

-- a number that was capped far above is the word's
pub number_is : (word : List ℕ) (n : ℕ) → is_number word ≡ true → n ≡ min (decimal_value word) (2 ^ 64 - 1) → n ≡ decimal_value word
number_is word n h is = let small = value_below word h in omega (arith, small, is)

pub number_below : (word : List ℕ) (n : ℕ) → is_number word ≡ true → n ≡ min (decimal_value word) (2 ^ 64 - 1) → n < 1000000000
number_below word n h is = let small = value_below word h in omega (arith, small, is)

pub number_found : (word : List ℕ) (n : ℕ) → is_number word ≡ true → n ≡ min (decimal_value word) (2 ^ 64 - 1) → Some n ≡ number word
number_found word n h is = rw h (ap Some (number_is word n h is))

front_at : (t : Bool) (x : ℕ) (xs : List ℕ) → is_ascii_digit x ≡ t → list_all is_ascii_digit (take (prefix_len is_ascii_digit xs) xs) ≡ true → list_all is_ascii_digit (take (prefix_len is_ascii_digit (x ∷ xs)) (x ∷ xs)) ≡ true
front_at true x xs e ih =
    let k : prefix_len is_ascii_digit (x ∷ xs) ≡ suc (prefix_len is_ascii_digit xs) = rw e (omega arith) in
    rw k (and_from (is_ascii_digit x) (list_all is_ascii_digit (take (prefix_len is_ascii_digit xs) xs)) e ih)
front_at false x xs e ih =
    let k : prefix_len is_ascii_digit (x ∷ xs) ≡ 0 = rw e refl in
    rw k refl

-- the digits at the front are digits
pub front_digits : (xs : List ℕ) → list_all is_ascii_digit (take (prefix_len is_ascii_digit xs) xs) ≡ true
front_digits [] = refl
front_digits (x ∷ xs) = front_at (is_ascii_digit x) x xs refl (front_digits xs)
