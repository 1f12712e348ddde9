use Rattle.std.proofs.Common.{rules, arith}
use Rattle.turn_lock.proofs.BoardSteps.{looks}
use Rattle.turn_lock.proofs.board.Board.current.Goals as goal

pub load-found-requires : goal.load-found-requires
load-found-requires c = (search rules, search rules, looks _ _ _ _ _ (omega arith))
