-- A value that is moved out of its row and back.
use Rattle.std.proofs.Common.{◌≡◌, ◌∙◌, refl, ap, sym, ℕ, zero, suc, List, [], ◌∷◌, ◌++◌, take, length}
use Rattle.std.proofs.Math.Seq.{take-append_seam}
use Rattle.std.specs.Prelude.{slice_set}
use Rattle.okws_base.specs.declared.value.Value.{Value}
use Rattle.okws_plan.specs.Meaning.{at_column, nothing}

-- It leaves the row as it was.
pub undisturbed : (values : List Value) (i : ℕ) → slice_set (slice_set values i nothing) i (at_column values i) ≡ values
undisturbed [] i = refl
undisturbed (v ∷ vs) zero = refl
undisturbed (v ∷ vs) (suc i) = ap (λ (more : List Value). v ∷ more) (undisturbed vs i)

-- A list that fills the room is all that is there.
pub taken_whole : {A : Type 0} (n : ℕ) (xs ys : List A) → length xs ≡ n → take n (xs ++ ys) ≡ xs
taken_whole n xs ys full = ap (λ (k : ℕ). take k (xs ++ ys)) (sym full) ∙ take-append_seam xs ys
