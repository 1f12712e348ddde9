use Rattle.std.proofs.Common.{◌≡◌, ◌∙◌, ℕ, false, List, [], ◌∷◌, arith, refl, sym, ap, subst}
use Rattle.std.specs.Prelude.{length}
use Rattle.okws_base.specs.Turns.{GrowsBy}
use Rattle.okws_base.specs.declared.journal.Entry.{Entry}
use Rattle.okws_plan.specs.declared.event.OkdEvent.{OkdEvent}
use Rattle.turn_lock.specs.Seats.{SeatIs}
use Rattle.named_columns.specs.Counts.{capped}
use Rattle.launch_turns.specs.Deeds.{by_deed, looks}
use Rattle.launch_turns.specs.Looking.{Stands}
use Rattle.launch_turns.specs.Resting.{RestingIs}
use Rattle.launch_turns.specs.declared.deed.Deed.{Deed}
use Rattle.launch_turns.proofs.Rests.{one_turn, rests_looked}
use Rattle.launch_turns.proofs.looking.look_by.Goals as goal

pub after-requires : goal.after-requires
after-requires g c =
    rests_looked g.N.Numbered.site g.N.Numbered.run_seed g.N.Staffed.children c.number.result c.nothing-entered.result c.into_parts-launcher.result.1.past c.into_parts-launcher.result.0 c.note_okd-note.new.self
    c.into_parts-launcher.ensures.rests c.nothing-entered.ensures c.note_okd-note.ensures.same

pub give-requires-clause-adds : goal.give-requires-clause-adds
give-requires-clause-adds g c =
    let d : Deed = record { worker = c.number.result; entered = c.nothing-entered.result; up = false; tended = false } in
    one_turn c.args.seat.now c.take-resting.new.seat c.take-resting.result.deeds d c.after.result.deeds c.take-resting.ensures.seat (c.number.ensures ∙ ap (λ (a : SeatIs Deed). a.number) c.take-resting.ensures.seat)
    (ap (λ (r : RestingIs). r.deeds) c.after.ensures ∙ ap (λ (deeds : List Deed). d ∷ deeds) c.into_parts-launcher.ensures.deeds)

pub returns-clause-looks : goal.returns-clause-looks
returns-clause-looks g c =
    let n = c.args.seat.now.number in
    let l = c.into_parts-launcher.result.0 in
    let deeds = c.into_parts-launcher.result.1.past in
    let number : c.number.result ≡ n = c.number.ensures ∙ ap (λ (a : SeatIs Deed). a.number) c.take-resting.ensures.seat in
    let d : Deed = record { worker = n; entered = []; up = false; tended = false } in
    let seen : c.give.new.seat.seen ≡ d ∷ deeds = ap (λ (a : SeatIs Deed). a.seen) c.give.ensures.seat ∙ (ap (λ (r : RestingIs). r.deeds) c.after.ensures ∙ (λ i. record { worker = number i; entered = c.nothing-entered.ensures i; up = false; tended = false } ∷ deeds)) in
    record {
      before = l;
      turn = record {
        found = c.keeps.ensures.is;
        deeds = deeds;
        deeds_are = c.into_parts-launcher.ensures.rests.entries_are;
        grows = subst (GrowsBy by_deed n c.args.seat.now.seen) (sym c.into_parts-launcher.ensures.deeds) c.take-resting.ensures.grows;
        enters = refl;
        few = omega arith;
        most = λ sound. omega arith;
        leaves = c.keeps.ensures.is;
        seen_is = seen;
      };
      okd_is = c.note_okd-note.ensures.note;
      stands = subst (λ (J : List (Entry OkdEvent)). Stands J l.journal.past (length g.N.Numbered.site.services) c.standing_of-standing.result) (sym c.note_okd-note.ensures.note)
          (subst (λ (m : ℕ). Stands l.crew.sat.okd l.journal.past m c.standing_of-standing.result) c.requires.services c.standing_of-standing.ensures);
      told_is = c.looks-told.ensures ∙ sym (ap (λ (ds : List Deed). capped (looks ds)) seen);
    }
