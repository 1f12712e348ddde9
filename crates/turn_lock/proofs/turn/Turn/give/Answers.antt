use Rattle.std.proofs.Common.{sym, ◌∙◌, subst}
use Rattle.turn_lock.specs.Seats.{SeatIs, AllComplete}
use Rattle.okws_base.specs.Turns.{AddsBy}
use Rattle.turn_lock.proofs.Reversed.{goes, complete_given}
use Rattle.turn_lock.proofs.turn.Turn.give.Goals as goal

pub give-requires-clause-entries : goal.give-requires-clause-entries
give-requires-clause-entries g c =
    let p = c.seat.inside.spot.place.me.0.part in
    goes g.V.Journaled.by p.number p.seen (g.V.Journaled.journal c.args.value)
    (subst (λ (a : SeatIs _). AddsBy g.V.Journaled.by a.number a.seen (g.V.Journaled.journal c.args.value)) (sym c.seat.view_is) c.requires.adds)

pub invariant_of-seat : goal.invariant_of-seat
invariant_of-seat g c =
    let p = c.seat.inside.spot.place.me.0.part in
    let s = c.give.ensures.seat in
    let a = subst (λ (a : SeatIs _). AddsBy g.V.Journaled.by a.number a.seen (g.V.Journaled.journal c.args.value)) (sym c.seat.view_is) c.requires.adds in
    let all = complete_given g.V.Journaled.by p.number p.seen p.own (g.V.Journaled.journal c.args.value) a c.seat.invariant.complete.0 in
    record {
      numbered = λ e. c.seat.invariant.numbered (sym s.1.0 ∙ e);
      complete = (
        rw (s.1.0, c.give.ensures.seen, c.give.ensures.own) all,
        subst (AllComplete g.V.Journaled.by) (sym s.1.1) c.seat.invariant.complete.1,
      );
      out = rw s.2 s.3;
    }
