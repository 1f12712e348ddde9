use Rattle.std.proofs.Common.{rules}
use Rattle.turn_lock.proofs.BoardSeats.{joins}
use Rattle.turn_lock.proofs.board.Board.join.Goals as goal

pub join_seat-requires : goal.join_seat-requires
join_seat-requires c = (search rules, search rules, search rules, search rules, joins _ _ _ _ _)
