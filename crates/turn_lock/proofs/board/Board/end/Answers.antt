use Rattle.std.proofs.Common.{ℕ, ◌<◌, List, subst}
use Rattle.turn_lock.specs.Board.{AllSaw, AllDrew}
use Rattle.turn_lock.specs.BoardSeats.{BoardIs, SeatIs, parts}
use Rattle.turn_lock.proofs.BoardSeats.{closes}
use Rattle.turn_lock.proofs.board.Board.end.Goals as goal

pub returns-clause-seen : goal.returns-clause-seen
returns-clause-seen c =
    subst (λ (x : SeatIs × BoardIs). (greatest : List ℕ) × AllSaw x.1.count greatest (parts x.0)) (λ k. (c.into_place.ensures.seat k, c.self.view_is k))
    (closes _ _ _ _ _ _ c.close_with-closed.ensures.values.2 c.word-count.ensures).0

pub returns-clause-drawn : goal.returns-clause-drawn
returns-clause-drawn c =
    subst (λ (x : SeatIs × BoardIs). (hand : ℕ → ℕ) × AllDrew hand c.word-count.result (parts x.0) × ((k : ℕ) → k < c.word-count.result → hand k < x.1.count)) (λ k. (c.into_place.ensures.seat k, c.self.view_is k))
    (closes _ _ _ _ _ _ c.close_with-closed.ensures.values.2 c.word-count.ensures).1
