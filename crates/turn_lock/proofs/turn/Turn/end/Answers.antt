use Rattle.std.proofs.Common.{◌<◌, ◌≤◌, ◌∷◌, sym, ap, subst}
use Rattle.turn_lock.specs.Seats.{SeatIs, AllGrow, HasSight, sights}
use Rattle.turn_lock.proofs.Reversed.{all_grown, none_of, has_number}
use Rattle.turn_lock.proofs.turn.Turn.end.Goals as goal

pub end-requires-clause-all : goal.end-requires-clause-all
end-requires-clause-all g c = λ k l.
    has_number k (c.seat.inside.spot.place.me.0.part ∷ c.seat.inside.spot.place.me.0.olds)
    (subst (λ (a : SeatIs _). HasSight k (sights a)) (sym c.seat.view_is) (c.requires.all k (subst (λ n. k < n) (ap (λ s. s.count) c.self.view_is) l)))

pub returns-clause-told : goal.returns-clause-told
returns-clause-told g c =
    subst (λ (a : SeatIs _). AllGrow g.V.Journaled.by (sights a) (g.V.Journaled.journal c.end.result)) c.seat.view_is
    (all_grown g.V.Journaled.by (g.V.Journaled.journal c.end.result) (c.seat.inside.spot.place.me.0.part ∷ c.seat.inside.spot.place.me.0.olds) c.end.ensures.told c.seat.invariant.complete)

pub returns-clause-none : goal.returns-clause-none
returns-clause-none g c = λ k l. none_of g.V.Journaled.by k (g.V.Journaled.journal c.end.result) (c.end.ensures.none k (subst (λ n. n ≤ k) (sym (ap (λ s. s.count) c.self.view_is)) l))
