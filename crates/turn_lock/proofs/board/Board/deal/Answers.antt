use Rattle.std.proofs.Common.{rules}
use Rattle.turn_lock.proofs.BoardSeats.{deals}
use Rattle.turn_lock.proofs.board.Board.deal.Goals as goal

pub split_seat-requires : goal.split_seat-requires
split_seat-requires c = (search rules, search rules, deals _ _ _ c.requires.rest.0 (search rules) (λ e. search rules) (search rules) c.requires.rest.3)
