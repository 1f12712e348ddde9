-- Drawers at a board.
use Rattle.std.proofs.Common.{◌≡◌, ℕ, zero, suc, ◌+◌, ◌<◌, List, [], ◌∷◌, ◌++◌, length, slice_index_or, subst, arith}
use Rattle.atomic_table.specs.Seated.{TableId}
use Rattle.turn_lock.specs.BoardSeats.{SeatIs, IsFresh, AreFresh}
use Rattle.turn_tests.specs.Draws.{DrawerIs, Ready, AllReady}

pub fresh_pop : (z : TableId) (last : ℕ) (as' : List SeatIs) (a : SeatIs) → AreFresh z last (as' ++ a ∷ []) → AreFresh z (suc last) as' × (a.board ≡ z) × (a.drawn ≡ [])
fresh_pop z last [] a f = (tt, f.0.board, f.0.drawn)
fresh_pop z last (x ∷ as') a f = let h = fresh_pop z last as' a f.1 in ((subst (λ k. IsFresh z k x) (lengths as') f.0, h.0), h.1, h.2) where
  lengths : (l : List SeatIs) → length (l ++ a ∷ []) + last ≡ length l + suc last
  lengths [] = omega arith
  lengths (y ∷ l) = let h = lengths l in omega arith

pub ready-push : (z : TableId) (ds : List DrawerIs) (d : DrawerIs) → AllReady z ds → Ready z d → AllReady z (ds ++ d ∷ [])
ready-push z [] d a r = (r, tt)
ready-push z (x ∷ ds) d a r = (a.0, ready-push z ds d a.1 r)

pub ready_at : (z : TableId) (i : ℕ) (d : DrawerIs) (ds : List DrawerIs) → AllReady z ds → i < length ds → Ready z (slice_index_or ds i d)
ready_at z i d [] a l = absurd (omega arith)
ready_at z zero d (x ∷ ds) a l = a.0
ready_at z (suc i) d (x ∷ ds) a l = ready_at z i d ds a.1 (omega arith)
