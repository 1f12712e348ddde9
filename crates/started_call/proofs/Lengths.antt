-- How long the parts of values and of rows are.
use Rattle.std.proofs.Common.{◌≡◌, ℕ, ℤ, zero, suc, ◌+◌, ◌<◌, List, [], ◌∷◌, length, get_or, take, arith, ap, add-one}
use Rattle.std.specs.Prelude.{flat_map}
use Rattle.std.specs.Int.{w64, cast_unsigned}
use Rattle.std.proofs.lemmas.List.Sums.{sum_by-append}
use Rattle.okws_base.specs.declared.value.Value.TheVariants.{Int, Text, Bytes}
use Rattle.frame_codec.specs.Spelling.{size, value, four}
use Rattle.frame_codec.proofs.Sizes.{length-four, length-eight}

pub int_length : (n : ℤ) → size (value (Int n)) ≡ 9
int_length n = omega (arith, length-eight (cast_unsigned w64 n))

pub text_length : (text : List ℕ) → size (value (Text text)) ≡ 5 + length text
text_length text = omega (arith, length-four (length text))

pub bytes_length : (bytes : List ℕ) → size (value (Bytes bytes)) ≡ 5 + length bytes
bytes_length bytes = omega (arith, length-four (length bytes))

next : {A : Type 0} (f : A → List (List ℕ)) (xs : List A) (i : ℕ) (d : A) → i < length xs → size (flat_map f (take (suc i) xs)) ≡ size (flat_map f (take i xs)) + size (f (get_or xs i d))
next f [] i d below = absurd (omega arith)
next f (x ∷ xs) zero d below = omega (arith, sum_by-append length (f x) [])
next f (x ∷ xs) (suc i) d below =
    omega (arith, sum_by-append length (f x) (flat_map f (take (suc i) xs)), sum_by-append length (f x) (flat_map f (take i xs)), next f xs i d (omega arith))

-- The parts of one item more.
pub one_more : {A : Type 0} (f : A → List (List ℕ)) (xs : List A) (i : ℕ) (d : A) → i < length xs → size (flat_map f (take (i + 1) xs)) ≡ size (flat_map f (take i xs)) + size (f (get_or xs i d))
one_more f xs i d below = rw add-one (next f xs i d below)
