use Rattle.std.proofs.Common.{rules}
use Rattle.turn_lock.proofs.BoardSteps.{draws}
use Rattle.turn_lock.proofs.board.Board.draw.Goals as goal

pub fetch_add-requires : goal.fetch_add-requires
fetch_add-requires c = (search rules, search rules, draws _ _ _ _ c.seat.invariant.numbered (search rules))
