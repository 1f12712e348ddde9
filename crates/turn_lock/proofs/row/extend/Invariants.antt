use Rattle.std.proofs.Common.{◌≡◌, length, map}
use Rattle.std.specs.Prelude.{vec_len}
use Rattle.turn_lock.specs.Rows.{Extending}
use Rattle.turn_lock.proofs.row.extend.Given as goal

abbrev pub invariant-loop-row : goal.invariant-loop-row
invariant-loop-row g l = Extending (map (λ s. s.items) l.fn.rows.items) (map (λ s. s.items) l.rows.items) l.fn.seats.items l.seats.items (map (λ s. s.items) l.longer.items) × (vec_len l.rows ≡ vec_len l.seats)

abbrev pub decreases-loop-row : goal.decreases-loop-row
decreases-loop-row g l = length l.rows.items
