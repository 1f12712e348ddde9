use Rattle.std.proofs.Common.{◌≡◌, ◌-◌, []}
use Rattle.std.specs.Prelude.{vec_len, vec_capacity}
use Rattle.turn_lock.specs.Board.{part_of, view_of, none_begun}
use Rattle.turn_lock.specs.BoardSeats.{AreRising}
use Rattle.turn_lock.proofs.board.Board.deal_all.Given as goal

abbrev pub invariant-loop-number : goal.invariant-loop-number
invariant-loop-number l =
    (l.place.table_id ≡ l.fn.place.table_id) × (l.place.me ≡ (view_of (part_of (l.count - 1) none_begun []) [] l.number (l.count - l.number), []))
    × AreRising l.self.id 0 l.seats.items × (vec_len l.seats ≡ l.number) × (vec_capacity l.seats ≡ vec_capacity l.fn.seats)
