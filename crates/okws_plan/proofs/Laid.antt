-- The columns of a row that is laid before another.
use Rattle.std.proofs.Common.{◌≡◌, ℕ, suc, zero, ◌-◌, ◌+◌, ◌≤◌, ◌<◌, List, [], ◌∷◌, ◌++◌, length, refl, ap, ◌∙◌, arith}
use Rattle.std.specs.Prelude.{slice_index_or}
use Rattle.std.specs.List.{range_with_len}
use Rattle.std.proofs.lemmas.List.{length-append}
use Rattle.std.proofs.lemmas.List.FromFn.{length-map-range_with_len, get_or-map-range_with_len}
use Rattle.okws_base.specs.declared.value.Value.{Value}
use Rattle.okws_plan.specs.Meaning.{nothing, at_column, cut, laid}

front : {A : Type 0} (xs ys : List A) (i : ℕ) (d : A) → i < length xs → slice_index_or (xs ++ ys) i d ≡ slice_index_or xs i d
front [] ys i d h = absurd (omega arith)
front (x ∷ xs) ys zero d h = refl
front (x ∷ xs) ys (suc i) d h = front xs ys i d (omega arith)

behind : {A : Type 0} (xs ys : List A) (i j : ℕ) (d : A) → length xs + j ≡ i → slice_index_or (xs ++ ys) i d ≡ slice_index_or ys j d
behind [] ys i j d e = ap (λ (n : ℕ). slice_index_or ys n d) (let n : i ≡ j = omega (arith, e) in n)
behind (x ∷ xs) ys zero j d e = absurd (omega (arith, e))
behind (x ∷ xs) ys (suc i) j d e = behind xs ys i j d (omega (arith, e))

size : (n : ℕ) (a : List Value) → length (cut (range_with_len 0 n) a) ≡ n
size n a = length-map-range_with_len (λ (c : ℕ). at_column a c) 0 n

-- Below the width of the first row the columns are its own.
pub laid_first : (n : ℕ) (a b : List Value) (c : ℕ) → c < n → at_column (laid n a b) c ≡ at_column a c
laid_first n a b c h =
    front (cut (range_with_len 0 n) a) b c nothing (omega (arith, size n a, h))
    ∙ get_or-map-range_with_len (λ (c : ℕ). at_column a c) 0 n c c nothing h (omega arith)

-- From there on they are the second's.
pub laid_second : (n : ℕ) (a b : List Value) (c : ℕ) → n ≤ c → at_column (laid n a b) c ≡ at_column b (c - n)
laid_second n a b c h = behind (cut (range_with_len 0 n) a) b c (c - n) nothing (omega (arith, size n a, h))

-- There are so many of both.
pub laid_size : (n : ℕ) (a b : List Value) → length (laid n a b) ≡ n + length b
laid_size n a b = length-append (cut (range_with_len 0 n) a) b ∙ ap (λ (k : ℕ). k + length b) (size n a)
