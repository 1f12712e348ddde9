use Rattle.std.proofs.Common.{rules, arith}
use Rattle.turn_lock.proofs.BoardSteps.{raises}
use Rattle.turn_lock.proofs.board.Board.raise.Goals as goal

pub store-requires : goal.store-requires
store-requires c = (search rules, search rules, raises _ _ _ _ _ _ (omega arith) (search rules) c.seat.invariant.numbered (search rules) (search rules))
