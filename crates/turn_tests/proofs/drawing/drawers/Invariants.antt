use Rattle.std.proofs.Common.{length}
use Rattle.turn_lock.specs.BoardSeats.{AreFresh}
use Rattle.turn_tests.specs.Draws.{AllReady}
use Rattle.turn_tests.proofs.drawing.drawers.Given as goal

abbrev pub invariant-loop-seat : goal.invariant-loop-seat
invariant-loop-seat l = AreFresh l.board.id (length l.drawers.items) l.seats.items × AllReady l.board.id l.drawers.items

abbrev pub decreases-loop-seat : goal.decreases-loop-seat
decreases-loop-seat l = length l.seats.items
