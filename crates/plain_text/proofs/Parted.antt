-- The first part of a list, and the first line of a text.
use Rattle.std.proofs.Common.{◌≡◌, ℕ, ◌+◌, ◌-◌, ◌<◌, ◌≤◌, Bool, true, false, List, [], ◌∷◌, length, take, drop, refl, sym, ap, ◌∙◌, arith, nat_lt, cond, not}
use Rattle.std.specs.Prelude.{Some, None, position}
use Rattle.std.specs.List.{All, position_or_len, slice_split, before_first}
use Rattle.std.specs.Str.Lines.{lines, lines_of_parts, strip_carriage_return}
use Rattle.std.proofs.Math.Seq.{take-length}
use Rattle.std.proofs.lemmas.Bool.{ltb-false, ltb-true, ne_eqb}
use Rattle.std.proofs.lemmas.Grind.{common_steps}
use Rattle.std.proofs.lemmas.List.Splits.{slice_split_none, slice_split_first, length-slice_split}
use Rattle.std.proofs.lemmas.List.Sums.{fails_before_first, prefix_len-le-length}
use Rattle.plain_text.specs.Parts.{is_byte}

-- a place that was found is the first one, and below the length
at_some : (n m i : ℕ) (test : Bool) → nat_lt n m ≡ test → cond test (Some n) None ≡ Some i → (n ≡ i) × (i < m)
at_some n m i true h e = let same : n ≡ i = cc in (same, omega (arith, ltb-true n m h))
at_some n m i false h e = absurd (cc)

-- where none was found, the first place is past the end
at_none : (n m : ℕ) (test : Bool) → nat_lt n m ≡ test → cond test (Some n) None ≡ None → m ≤ n
at_none n m true h e = absurd (cc)
at_none n m false h e = ltb-false n m h

found : {X : Type 0} (p : X → Bool) (xs : List X) (i : ℕ) → position p xs ≡ Some i → (position_or_len p xs ≡ i) × (i < length xs)
found p xs i e = at_some (position_or_len p xs) (length xs) i _ refl e

past_end : {X : Type 0} (p : X → Bool) (xs : List X) → position p xs ≡ None → length xs ≤ position_or_len p xs
past_end p xs e = at_none (position_or_len p xs) (length xs) _ refl e

-- where none was found, the test fails everywhere
fails : {X : Type 0} (p : X → Bool) (xs : List X) → position p xs ≡ None → All (λ x. p x ≡ false) xs
fails p xs e = λ k d below. let past = past_end p xs e in fails_before_first p xs k d (omega arith)

-- what follows a place, taken to its end
to_end : (n : ℕ) (xs : List ℕ) → take (length xs - n) (drop n xs) ≡ drop n xs
to_end n xs = grind (arith, common_steps)

pub before_none : {X : Type 0} (p : X → Bool) (xs : List X) → position p xs ≡ None → before_first p xs ≡ xs
before_none p xs e =
    let past = past_end p xs e in
    let same : position_or_len p xs ≡ length xs = omega (arith, prefix_len-le-length (λ x. not (p x)) xs, past) in
    ap (λ n. take n xs) same ∙ take-length xs

pub before_some : {X : Type 0} (p : X → Bool) (xs : List X) (i : ℕ) → position p xs ≡ Some i → (take i xs ≡ before_first p xs) × (i < length xs)
before_some p xs i e = let h = found p xs i e in (ap (λ n. take n xs) (sym h.0), h.1)

pub one_part : (p : ℕ → Bool) (xs : List ℕ) → position p xs ≡ None → slice_split p xs ≡ xs ∷ []
one_part p xs e = slice_split_none p xs (fails p xs e)

pub first_part : (p : ℕ → Bool) (xs : List ℕ) (i : ℕ) → position p xs ≡ Some i → slice_split p xs ≡ take i xs ∷ slice_split p (take (length xs - (i + 1)) (drop (i + 1) xs))
first_part p xs i e =
    let place = found p xs i e in
    let split = slice_split_first p xs 0 (omega (arith, place.0, place.1)) in
    split ∙ ap (λ n. take n xs ∷ slice_split p (drop (n + 1) xs)) place.0 ∙ ap (λ more. take i xs ∷ slice_split p more) (sym (to_end (i + 1) xs))

-- a part before others is a line without its carriage return
pub before_others : (part : List ℕ) (parts : List (List ℕ)) → 0 < length parts → lines_of_parts (part ∷ parts) ≡ strip_carriage_return part ∷ lines_of_parts parts
before_others part [] some = absurd (omega arith)
before_others part (other ∷ more) some = refl

pub has_part : (text : List ℕ) → 0 < length (slice_split (is_byte 10) text)
has_part text = omega (arith, length-slice_split (is_byte 10) text)

-- one part alone is a line, unless it is empty
alone : (text : List ℕ) → 0 < length text → lines_of_parts (text ∷ []) ≡ text ∷ []
alone text some = ap (λ t. cond t [] (text ∷ [])) (ne_eqb (length text) 0 (λ e. omega arith))

pub ended_line : (text front line rest : List ℕ) → slice_split (is_byte 10) text ≡ front ∷ slice_split (is_byte 10) rest → line ≡ strip_carriage_return front → lines text ≡ line ∷ lines rest
ended_line text front line rest split is =
    ap (λ parts. lines_of_parts parts) split ∙ before_others front (slice_split (is_byte 10) rest) (has_part rest) ∙ ap (λ (first : List ℕ). first ∷ lines rest) (sym is)
