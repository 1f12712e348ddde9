use Rattle.std.proofs.Common.{rules, arith}
use Rattle.turn_lock.proofs.BoardSeats.{opens}
use Rattle.turn_lock.proofs.board.Board.open.Goals as goal

pub of_words-requires : goal.of_words-requires
of_words-requires c = opens _ (search rules) (omega arith)
