-- The first word of bytes, as a program finds it.
use Rattle.std.proofs.Common.{◌≡◌, ℕ, suc, ◌+◌, ◌-◌, ◌<◌, ◌==◌, Bool, true, false, List, [], ◌∷◌, length, take, drop, get_or, refl, ap, ◌∙◌, arith, cond, inl, inr, add-one, not}
use Rattle.std.specs.Prelude.{filter}
use Rattle.std.specs.List.{slice_split, prefix_len}
use Rattle.std.proofs.lemmas.Bool.{lt-ltb, eqb-true, eqb-false, cases_lt}
use Rattle.std.proofs.lemmas.Grind.{common_steps}
use Rattle.std.proofs.lemmas.List.{drop_all, take_all, length-take}
use Rattle.std.proofs.lemmas.List.Splits.{slice_split_none, slice_split_first}
use Rattle.std.proofs.lemmas.List.Sums.{fails_before_first, prefix_len-le-length, prefix_len_stops}
use Rattle.std.proofs.Math.Seq.{drop-cons}
use Rattle.plain_text.specs.Words.{words, is_blank, is_word, is_word_byte, from_word}

abbrev word_length : List ℕ → ℕ
word_length bytes = prefix_len is_word_byte bytes

-- a piece with a byte is a word
pub word_first : (piece : List ℕ) (pieces : List (List ℕ)) → 0 < length piece → filter is_word (piece ∷ pieces) ≡ piece ∷ filter is_word pieces
word_first piece pieces some = ap (λ t. cond t (piece ∷ filter is_word pieces) (filter is_word pieces)) (lt-ltb 0 (length piece) some)

-- a blank in front changes no word
skip_words : (b : ℕ) (more : List ℕ) → is_blank b ≡ true → words (b ∷ more) ≡ words more
skip_words b more e = rw e refl

skip : (b : ℕ) (more : List ℕ) → is_blank b ≡ true → from_word (b ∷ more) ≡ from_word more
skip b more h =
    let k : prefix_len is_blank (b ∷ more) ≡ suc (prefix_len is_blank more) = rw h (omega arith) in
    rw k refl

stay : (b : ℕ) (more : List ℕ) → is_blank b ≡ false → from_word (b ∷ more) ≡ b ∷ more
stay b more h = rw h refl

one_more : (b : ℕ) (more : List ℕ) → is_blank b ≡ false → word_length (b ∷ more) ≡ suc (word_length more)
one_more b more h = rw h (omega arith)

-- bytes from a word on: none, or the first is no blank
record Finds (bytes : List ℕ) (from : List ℕ) : Type 0 where
  same : words bytes ≡ words from
  long : 0 < length from → 0 < word_length from

finds_at : (t : Bool) (b : ℕ) (more : List ℕ) → is_blank b ≡ t → Finds more (from_word more) → Finds (b ∷ more) (from_word (b ∷ more))
finds_at true b more h ih = rw (skip b more h) (record { same = skip_words b more h ∙ ih.same; long = λ there. ih.long there })
finds_at false b more h ih = rw (stay b more h) (record { same = refl; long = λ there. rw (one_more b more h) (omega arith) })

finds : (bytes : List ℕ) → Finds bytes (from_word bytes)
finds [] = record { same = refl; long = λ there. absurd (omega arith) }
finds (b ∷ more) = finds_at (is_blank b) b more refl (finds more)

none_left : (from : List ℕ) → length from ≡ 0 → words from ≡ []
none_left [] h = refl
none_left (b ∷ more) h = absurd (omega arith)

pub no_word : (bytes from : List ℕ) → from ≡ from_word bytes → (length from == 0) ≡ true → words bytes ≡ []
no_word bytes from is none = (rw (← is) at (finds bytes)).same ∙ none_left from (eqb-true (length from) 0 none)

not_false : (b : Bool) → not b ≡ false → b ≡ true
not_false true h = refl
not_false false h = absurd (cc)

-- behind a word stands a blank
blank_behind : (from : List ℕ) → word_length from < length from → is_blank (get_or from (word_length from) 0) ≡ true
blank_behind from less = not_false _ (prefix_len_stops is_word_byte from 0 less)

-- a word before a blank
ended : (from : List ℕ) → 0 < word_length from → word_length from < length from → words from ≡ take (word_length from) from ∷ words (drop (word_length from) from)
ended from some less =
    let n = word_length from in
    let split = slice_split_first is_blank from 0 less in
    let size : 0 < length (take n from) = omega (arith, length-take n from) in
    let behind : words (drop n from) ≡ words (drop (suc n) from) = rw (drop-cons from n 0) (skip_words (get_or from n 0) (drop (suc n) from) (blank_behind from less)) in
    ap (λ pieces. filter is_word pieces) split ∙ word_first (take n from) (slice_split is_blank (drop (n + 1) from)) size ∙ rw (add-one n, behind) refl

-- a word that nothing follows
last : (from : List ℕ) → 0 < length from → word_length from ≡ length from → words from ≡ take (word_length from) from ∷ words (drop (word_length from) from)
last from some all =
    let whole : take (word_length from) from ≡ from = take_all _ from (omega arith) in
    let none : drop (word_length from) from ≡ [] = drop_all _ from (omega arith) in
    let split = slice_split_none is_blank from (λ k d below. fails_before_first is_blank from k d (omega arith)) in
    ap (λ pieces. filter is_word pieces) split ∙ word_first from [] some ∙ rw (whole, none) refl

begun : (from : List ℕ) → 0 < length from → 0 < word_length from → words from ≡ take (word_length from) from ∷ words (drop (word_length from) from)
begun from some long = elim (cases_lt (word_length from) (length from)) [
  | inl less ↦ ended from long less
  | inr all ↦ last from some (omega (arith, prefix_len-le-length is_word_byte from))
]

is_some : (n : ℕ) → (n == 0) ≡ false → 0 < n
is_some n h = let other = eqb-false n 0 h in omega arith

pub first_word : (bytes from : List ℕ) (n : ℕ) → from ≡ from_word bytes → n ≡ word_length from → (length from == 0) ≡ false → words bytes ≡ take n from ∷ words (take (length from - n) (drop n from))
first_word bytes from n is len there =
    let all : take (length from - n) (drop n from) ≡ drop n from = grind (arith, common_steps) in
    let some = is_some (length from) there in
    let at = rw (← is) at (finds bytes) in
    rw (all, len) (at.same ∙ begun from some (at.long some))
