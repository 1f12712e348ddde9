use Rattle.std.proofs.Common.{◌≡◌, ℕ, zero, suc, ◌+◌, ◌*◌, ◌<◌, ◌≤◌, List, [], ◌∷◌, Option, length, slice_set, arith}
use Rattle.pubd_core.specs.Kept.{current_in, number_of, total}
use Rattle.pubd_core.specs.declared.kept.Edition.{Edition}

-- one template has another edition
pub total_set : (currents : List (Option Edition)) (t : ℕ) (e : Option Edition) → t < length currents → total (slice_set currents t e) + number_of (current_in currents t) ≡ total currents + number_of e
total_set [] t e h = omega (arith, h)
total_set (c ∷ currents) zero e h = omega arith
total_set (c ∷ currents) (suc t) e h = let more = total_set currents t e (omega (arith, h)) in omega (arith, more)

-- each template has at most a million editions
pub total_most : (currents : List (Option Edition)) → ((t : ℕ) → number_of (current_in currents t) ≤ 1000000) → total currents ≤ length currents * 1000000
total_most [] h = omega arith
total_most (c ∷ currents) h =
    let first = h 0 in
    let more = total_most currents (λ t. h (suc t)) in
    omega (arith, first, more)
