use Rattle.std.proofs.Common.{subst}
use Rattle.turn_lock.specs.Seats.{SeatIs}
use Rattle.okws_base.specs.Turns.{GrowsBy}
use Rattle.turn_lock.proofs.Reversed.{grown}
use Rattle.turn_lock.proofs.turn.Turn.take.Goals as goal

pub returns-clause-grows : goal.returns-clause-grows
returns-clause-grows g c =
    let p = c.seat.inside.spot.place.me.0.part in
    subst (λ (a : SeatIs _). GrowsBy g.V.Journaled.by a.number a.seen (g.V.Journaled.journal c.take.result)) c.seat.view_is
    (grown g.V.Journaled.by p.number p.seen p.own (g.V.Journaled.journal c.take.result) c.take.ensures.seen c.take.ensures.own c.seat.invariant.complete.0)
