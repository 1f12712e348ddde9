use Rattle.std.proofs.Common.{◌≡◌, ◌+◌, ◌≤◌, length}
use Rattle.std.specs.Prelude.{vec_capacity}
use Rattle.turn_lock.specs.BoardSeats.{AreFresh, AreRising}
use Rattle.turn_lock.proofs.board.Board.new.Given as goal

abbrev pub invariant-loop-seat : goal.invariant-loop-seat
invariant-loop-seat l =
    AreRising l.board.id 0 l.rising.items × AreFresh l.board.id (length l.rising.items) l.seats.items
    × (length l.rising.items + length l.seats.items ≡ l.count) × (l.count ≤ vec_capacity l.seats)

abbrev pub decreases-loop-seat : goal.decreases-loop-seat
decreases-loop-seat l = length l.rising.items
