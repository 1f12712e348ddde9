-- Each of a list of fresh seats is the lock's, and holds no turn.
use Rattle.std.proofs.Common.{◌≡◌, ℕ, zero, suc, ◌<◌, List, [], ◌∷◌, length, slice_index_or, false, sym, subst, arith}
use Rattle.atomic_table.specs.Seated.{TableId}
use Rattle.turn_lock.specs.Seats.{SeatIs, AreFresh}

pub each_free : {E : Type 0} (z : TableId) (label k : ℕ) (ys : List (SeatIs E)) → AreFresh z label k ys → (i : ℕ) (y : SeatIs E) → i < length ys → y ≡ slice_index_or ys i y → (y.lock ≡ z) × (y.held ≡ false)
each_free z label k [] a i y l e = absurd (omega arith)
each_free z label k (x ∷ ys) a zero y l e = subst (λ (t : SeatIs _). (t.lock ≡ z) × (t.held ≡ false)) (sym e) (a.0.lock, a.0.free)
each_free z label k (x ∷ ys) a (suc i) y l e = each_free z label k ys a.1 i y (omega arith) e
