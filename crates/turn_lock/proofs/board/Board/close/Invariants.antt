use Rattle.std.proofs.Common.{length}
use Rattle.turn_lock.specs.BoardSeats.{Gathering}
use Rattle.turn_lock.proofs.board.Board.close.Given as goal

abbrev pub invariant-loop-seat : goal.invariant-loop-seat
invariant-loop-seat l = Gathering l.self.id l.fn.seats.items l.seats.items l.all

abbrev pub decreases-loop-seat : goal.decreases-loop-seat
decreases-loop-seat l = length l.seats.items
