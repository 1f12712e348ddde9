use Rattle.std.proofs.Common.{ℕ, reverse, sym, ap, ◌∙◌, subst}
use Rattle.turn_lock.specs.Seats.{SeatIs, AllComplete}
use Rattle.okws_base.specs.Turns.{GrowsBy, AddsBy, Behind}
use Rattle.turn_lock.proofs.Reversed.{complete_learned, grown_learned, behind}
use Rattle.turn_lock.proofs.turn.Turn.meet.Goals as goal

pub invariant_of-seat : goal.invariant_of-seat
invariant_of-seat g c =
    let p = c.seat.inside.spot.place.me.0.part in
    let m = c.meet.ensures.parts in
    let now = c.meet.new.spot.place.me.0.part.seen in
    let number_is = ap (λ v. v.part.number) m in
    let own_is = ap (λ v. v.part.own) m in
    let own = subst (λ (x : ℕ × _). Rattle.turn_lock.specs.Tickets.StartsWith x.1 (Rattle.okws_base.specs.Turns.of g.V.Journaled.by x.0 now)) (λ k. (number_is k, own_is k)) c.meet.ensures.own in
    let all = complete_learned g.V.Journaled.by p.number p.seen p.own now c.meet.ensures.begins.0 own c.seat.invariant.complete.0 in
    record {
      numbered = λ e. c.seat.invariant.numbered (sym number_is ∙ e);
      complete = (
        rw (number_is, own_is) all,
        subst (AllComplete g.V.Journaled.by) (sym (ap (λ v. v.olds) m)) c.seat.invariant.complete.1,
      );
      out = rw c.meet.ensures.same.1.0 c.meet.ensures.same.1.1;
    }

pub returns-clause-grows : goal.returns-clause-grows
returns-clause-grows g c =
    let p = c.seat.inside.spot.place.me.0.part in
    let m = c.meet.ensures.parts in
    let now = c.meet.new.spot.place.me.0.part.seen in
    let number_is = ap (λ v. v.part.number) m in
    let own_is = ap (λ v. v.part.own) m in
    let own = subst (λ (x : ℕ × _). Rattle.turn_lock.specs.Tickets.StartsWith x.1 (Rattle.okws_base.specs.Turns.of g.V.Journaled.by x.0 now)) (λ k. (number_is k, own_is k)) c.meet.ensures.own in
    subst (λ (a : SeatIs _). GrowsBy g.V.Journaled.by a.number a.seen (reverse now)) c.seat.view_is
    (grown_learned g.V.Journaled.by p.number p.seen p.own now c.meet.ensures.begins.0 own c.seat.invariant.complete.0)

pub returns-clause-met : goal.returns-clause-met
returns-clause-met g c =
    subst (λ (a : _). Behind a (reverse c.meet.new.spot.place.me.0.part.seen)) (ap (λ n. n.seen) c.note.view_is)
    (behind c.note.inside.spot.place.me.0.part.seen c.meet.new.spot.place.me.0.part.seen c.meet.ensures.begins.1)
