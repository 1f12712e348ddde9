use Rattle.std.proofs.Common.{◌≤◌, get_or, rules, subst}
use Rattle.turn_lock.specs.BoardSeats.{SeatIs}
use Rattle.turn_lock.proofs.BoardSeats.{glimpses, joins}
use Rattle.turn_lock.proofs.BoardSteps.{compares, after_compare}
use Rattle.turn_lock.proofs.board.Board.compare.Goals as goal

pub split_seat-glimpse-requires : goal.split_seat-glimpse-requires
split_seat-glimpse-requires c = (search rules, search rules, glimpses _ _ _)

pub join_seat-requires : goal.join_seat-requires
join_seat-requires c = (search rules, search rules, search rules, search rules, joins _ _ _ _ _)

pub load-requires : goal.load-requires
load-requires c = (search rules, search rules, compares _ _ _ _ (search rules) (search rules))

pub returns-clause-least : goal.returns-clause-least
returns-clause-least c s =
    subst (λ (x : SeatIs × SeatIs). get_or x.0.seen s 0 ≤ get_or x.1.seen s 0) (λ k. (c.other.view_is k, c.launcher.view_is k))
    (after_compare c.join_seat.new.seat.me c.split_seat-glimpse.result.me c.launcher.inside.place.me c.other.inside.place.me c.join_seat.ensures.2 c.split_seat-glimpse.ensures.4 c.load.ensures.2.1 s)
