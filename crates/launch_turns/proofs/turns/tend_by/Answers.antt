use Rattle.std.proofs.Common.{◌≡◌, ◌∙◌, ℕ, Bool, true, List, ◌∷◌, sym, ap, subst}
use Rattle.okws_base.specs.Turns.{GrowsBy}
use Rattle.turn_lock.specs.Seats.{SeatIs}
use Rattle.launch_turns.specs.Deeds.{by_deed, ended_in, up_in}
use Rattle.okld_launch.specs.Ups.{ends_after, ups_after}
use Rattle.okld_launch.specs.Entering.{Enters}
use Rattle.okld_launch.specs.Going.{GoesTended}
use Rattle.okld_launch.specs.Launchers.{LauncherIs}
use Rattle.okld_launch.specs.Pieces.{IsClosed}
use Rattle.launch_turns.specs.Resting.{RestingIs}
use Rattle.launch_turns.specs.Standing.{BegunBefore, UpsStand}
use Rattle.launch_turns.specs.declared.deed.Deed.{Deed}
use Rattle.launch_turns.proofs.Rests.{most_of, one_turn, rests_after}
use Rattle.launch_turns.proofs.turns.tend_by.Goals as goal

pub after-rested-requires : goal.after-rested-requires
after-rested-requires g c =
    let d : Deed = record { worker = c.number.result; entered = c.tend-launcher.result.2; up = c.is_up.result; tended = true } in
    rests_after g.N.Numbered.site g.N.Numbered.run_seed g.N.Staffed.children d c.into_parts_for-launcher.result.1.past c.into_parts_for-launcher.result.0 c.tend-launcher.result.0 c.into_parts_for-launcher.ensures.rests.entries_are
    (subst (λ (n : ℕ). Enters n c.tend-launcher.result.2 c.into_parts_for-launcher.result.0.journal.past c.tend-launcher.result.0.journal.past) ((ap (λ (l : LauncherIs). l.journal.holder) c.into_parts_for-launcher.ensures.launcher ∙ c.take-resting.ensures.holder) ∙ sym (c.number.ensures ∙ ap (λ (a : SeatIs Deed). a.number) c.take-resting.ensures.seat)) c.tend-launcher.ensures.enters)
    (subst (λ (b : Bool). IsClosed g.N.Numbered.site g.N.Numbered.run_seed g.N.Staffed.children (ups_after b c.tend-launcher.result.2 (up_in c.into_parts_for-launcher.result.1.past)) (ends_after true c.tend-launcher.result.2 (ended_in c.into_parts_for-launcher.result.1.past)) c.tend-launcher.result.0) (sym c.is_up.ensures) (c.tend-launcher.ensures.whole (up_in c.into_parts_for-launcher.result.1.past) (ended_in c.into_parts_for-launcher.result.1.past) c.into_parts_for-launcher.ensures.rests.closed))

pub give-requires-clause-adds : goal.give-requires-clause-adds
give-requires-clause-adds g c =
    let d : Deed = record { worker = c.number.result; entered = c.tend-launcher.result.2; up = c.is_up.result; tended = true } in
    one_turn c.args.seat.now c.take-resting.new.seat c.take-resting.result.deeds d c.note_okd-note.new.self.deeds c.take-resting.ensures.seat (c.number.ensures ∙ ap (λ (a : SeatIs Deed). a.number) c.take-resting.ensures.seat)
    (ap (λ (r : RestingIs). r.deeds) c.note_okd-note.ensures.same ∙ ap (λ (r : RestingIs). r.deeds) c.after-rested.ensures ∙ ap (λ (deeds : List Deed). d ∷ deeds) c.into_parts_for-launcher.ensures.deeds)

pub returns-clause-goes : goal.returns-clause-goes
returns-clause-goes g c =
    let n = c.args.seat.now.number in
    let holder : c.into_parts_for-launcher.result.0.journal.holder ≡ n = (ap (λ (l : LauncherIs). l.journal.holder) c.into_parts_for-launcher.ensures.launcher ∙ c.take-resting.ensures.holder) in
    let number : c.number.result ≡ n = c.number.ensures ∙ ap (λ (a : SeatIs Deed). a.number) c.take-resting.ensures.seat in
    record {
      before = c.into_parts_for-launcher.result.0;
      after = c.tend-launcher.result.0;
      turn = record {
        found = c.keeps.ensures.is;
        deeds = c.into_parts_for-launcher.result.1.past;
        deeds_are = c.into_parts_for-launcher.ensures.rests.entries_are;
        grows = subst (GrowsBy by_deed n c.args.seat.now.seen) (sym c.into_parts_for-launcher.ensures.deeds) c.take-resting.ensures.grows;
        enters = subst (λ (m : ℕ). Enters m c.tend-launcher.result.2 c.into_parts_for-launcher.result.0.journal.past c.tend-launcher.result.0.journal.past) holder c.tend-launcher.ensures.enters;
        few = c.tend-launcher.ensures.few;
        most = most_of g.N.Numbered.site c.tend-launcher.result.2 c.tend-launcher.ensures.few;
        leaves = c.keeps-2.ensures.is;
        seen_is = ap (λ (a : SeatIs Deed). a.seen) c.give.ensures.seat ∙ (ap (λ (r : RestingIs). r.deeds) c.note_okd-note.ensures.same ∙ ap (λ (r : RestingIs). r.deeds) c.after-rested.ensures ∙ (λ i. record { worker = number i; entered = c.tend-launcher.result.2; up = c.is_up.ensures i; tended = true } ∷ c.into_parts_for-launcher.result.1.past));
      };
      goes = subst (λ (n : ℕ). GoesTended g.N.Numbered.site n c.args.service c.into_parts_for-launcher.result.0 c.tend-launcher.result.1 c.tend-launcher.result.0) holder c.tend-launcher.ensures.goes;
    }

pub returns-clause-stand : goal.returns-clause-stand
returns-clause-stand g c =
    let seen : c.give.new.seat.seen ≡ c.after-rested.result.deeds = ap (λ (a : SeatIs Deed). a.seen) c.give.ensures.seat ∙ ap (λ (r : RestingIs). r.deeds) c.note_okd-note.ensures.same in
    subst (λ (ds : List Deed). UpsStand ds c.note_okd-note.result) (sym seen) c.note_okd-note.ensures.stand

pub returns-clause-shown : goal.returns-clause-shown
returns-clause-shown g c =
    let d : Deed = record { worker = c.number.result; entered = c.tend-launcher.result.2; up = c.is_up.result; tended = true } in
    let seen : c.give.new.seat.seen ≡ d ∷ c.take-resting.result.deeds =
    ap (λ (a : SeatIs Deed). a.seen) c.give.ensures.seat ∙ (ap (λ (r : RestingIs). r.deeds) c.note_okd-note.ensures.same ∙ ap (λ (r : RestingIs). r.deeds) c.after-rested.ensures ∙ ap (λ (deeds : List Deed). d ∷ deeds) c.into_parts_for-launcher.ensures.deeds) in
    subst (λ (ds : List Deed). BegunBefore g.N.Numbered.site c.args.hands.now.board ds) (sym seen) c.into_parts_for-launcher.ensures.begun
