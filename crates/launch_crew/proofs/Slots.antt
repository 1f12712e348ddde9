-- A list of numbers of which one was set.
use Rattle.std.proofs.Common.{◌≡◌, ◌≢◌, ℕ, zero, suc, ◌<◌, List, [], ◌∷◌, length, refl, ap, arith}
use Rattle.std.specs.Prelude.{slice_index, slice_set}

pub set_here : (xs : List ℕ) (s k : ℕ) → s < length xs → slice_index (slice_set xs s k) s ≡ k
set_here [] s k h = absurd (omega arith)
set_here (x ∷ xs) zero k h = refl
set_here (x ∷ xs) (suc s) k h = set_here xs s k (omega arith)

pub set_there : (xs : List ℕ) (s t k : ℕ) → t ≢ s → slice_index (slice_set xs s k) t ≡ slice_index xs t
set_there [] s t k n = refl
set_there (x ∷ xs) zero zero k n = absurd (n refl)
set_there (x ∷ xs) zero (suc t) k n = refl
set_there (x ∷ xs) (suc s) zero k n = refl
set_there (x ∷ xs) (suc s) (suc t) k n = set_there xs s t k (λ is. n (ap suc is))
