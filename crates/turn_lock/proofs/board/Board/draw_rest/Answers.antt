use Rattle.std.proofs.Common.{rules}
use Rattle.turn_lock.proofs.BoardGathers.{rests}
use Rattle.turn_lock.proofs.BoardSteps.{draws_rest}
use Rattle.turn_lock.proofs.board.Board.draw_rest.Goals as goal

pub fetch_max-requires : goal.fetch_max-requires
fetch_max-requires c = (search rules, search rules, draws_rest _ _ _ _ c.seat.invariant.numbered)

pub invariant_of-seat : goal.invariant_of-seat
invariant_of-seat c = rests c.seat.inside.place c.fetch_max.new.seat c.fetch_max.result c.fetch_max.ensures.2.0 c.fetch_max.ensures.2.1 c.seat.invariant
