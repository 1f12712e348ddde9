use Rattle.std.proofs.Common.{length}
use Rattle.turn_lock.specs.Seats.{Gathering}
use Rattle.turn_lock.proofs.turn.Turn.close.Given as goal

abbrev pub invariant-loop-seat : goal.invariant-loop-seat
invariant-loop-seat g l = Gathering g.V.Journaled.by l.self.id l.fn.seats.items l.seats.items l.all

abbrev pub decreases-loop-seat : goal.decreases-loop-seat
decreases-loop-seat g l = length l.seats.items
