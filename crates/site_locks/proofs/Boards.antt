-- What is seen on the board.
use Rattle.std.proofs.Common.{ℕ, zero, suc, ◌≤◌, List, [], ◌∷◌, get_or, set, arith}

-- no number fell
pub no_fall : (xs : List ℕ) (i r s : ℕ) → get_or xs i 0 ≤ r → get_or xs s 0 ≤ get_or (set xs i r) s 0
no_fall [] i r s h = omega arith
no_fall (x ∷ xs) zero r zero h = h
no_fall (x ∷ xs) zero r (suc s) h = omega arith
no_fall (x ∷ xs) (suc i) r zero h = omega arith
no_fall (x ∷ xs) (suc i) r (suc s) h = no_fall xs i r s h
