use Rattle.std.proofs.Common.{rules, ◌≡◌, ◌∙◌, ℕ, true, List, sym, ap, subst, Bool}
use Rattle.okws_plan.specs.declared.event.LauncherEvent.TheVariants as event
use Rattle.okld_launch.specs.Launchers.{LauncherIs}
use Rattle.std.specs.Prelude.{is_some}
use Rattle.okws_base.specs.declared.journal.Entry.{Entry}
use Rattle.okws_outer.specs.Families.{Family}
use Rattle.okws_plan.specs.declared.event.LauncherEvent.{LauncherEvent}
use Rattle.monitor_model.specs.Launcher.{begun}
use Rattle.launch_journal.specs.Launches.{given_up}
use Rattle.okld_launch.specs.Going.{GivesUpAgain, Goes, GoesCrashed}
use Rattle.okld_launch.specs.declared.answer.Crashed.{Crashed}
use Rattle.okld_launch.proofs.Again.{again_crashed, not_given}
use Rattle.okld_launch.proofs.Opened.{CrashOpens, crash_opens, greatest_here}
use Rattle.okld_launch.proofs.Told.{crashed_of}
use Rattle.okld_launch.proofs.Opening.{opens}
use Rattle.okld_launch.proofs.OnWay.{closed_entered, closed_roomy}
use Rattle.okld_launch.specs.Ups.{crash_up, ups_after}
use Rattle.okld_launch.specs.Pieces.{IsClosed}
use Rattle.okld_launch.proofs.Turning.{again_down, crash_as}
use Rattle.okld_launch.proofs.launcher.Launcher.note_crash.Goals as goal

pub returns-then-is_err : goal.returns-then-is_err
returns-then-is_err g c = record {
  goes = search rules;
  enters = search rules;
  few = search rules;
  whole = λ up ended whole. closed_roomy g.N.Numbered.site g.N.Numbered.run_seed g.N.Staffed.children up ended c.args.self c.make_room.new.self c.make_room.new.self.journal.room c.make_room.ensures.same whole;
  holder = search rules;
}

pub returns-then-incarnation-greatest : goal.returns-then-incarnation-greatest
returns-then-incarnation-greatest g c = record {
  goes = search rules;
  enters = search rules;
  few = search rules;
  whole = λ up ended whole. closed_entered g.N.Numbered.site g.N.Numbered.run_seed g.N.Staffed.children up ended c.make_room.new.self c.crash-crash.new.self (event.Crashed c.args.service c.args.incarnation) tt c.crash-crash.ensures.entered (closed_roomy g.N.Numbered.site g.N.Numbered.run_seed g.N.Staffed.children up ended c.args.self c.make_room.new.self c.make_room.new.self.journal.room c.make_room.ensures.same whole);
  holder = search rules;
}

pub returns-then-is_some : goal.returns-then-is_some
returns-then-is_some g c = record {
  goes = let s = c.args.service in
      let k = c.args.incarnation in
      let o : CrashOpens s k c.args.self c.crash-crash.new.self = crash_opens s k c.args.self c.make_room.new.self c.crash-crash.new.self c.make_room.ensures.same c.crash-crash.ensures.entered in
      let is : k ≡ begun c.args.self.journal.past s = greatest_here s k c.greatest-greatest.result c.args.self c.crash-crash.new.self o c.requires.begun c.greatest-greatest.ensures.is c.if-incarnation-greatest.false in
      let dead : is_some (given_up c.args.self.journal.past s) ≡ true = ap (λ (J : List (Entry LauncherEvent)). is_some (given_up J s)) (sym o.past) ∙ (ap is_some (sym c.given_up.ensures) ∙ (sym c.is_some.ensures ∙ c.if-is_some.true)) in
      again_crashed g.N.Numbered.site c.args.self.journal.holder s k c.args.self.journal.past c.args.self.crew.family c.give_up_again.result.1 c.give_up_again.result.0 is dead
      (subst (λ (x : ℕ × List (Entry LauncherEvent)). GivesUpAgain x.0 s x.1 c.give_up_again.result.1 c.give_up_again.result.0) (λ i. (o.holder i, o.past i)) c.give_up_again.ensures.again);
  enters = opens (event.Crashed c.args.service c.args.incarnation) c.crash-crash.result c.args.self.journal.holder c.args.self.journal.past c.make_room.new.self c.crash-crash.new.self c.give_up_again.result.2 c.give_up_again.result.0.journal.past
      (ap (λ (l : LauncherIs). l.journal.holder) c.make_room.ensures.same) (ap (λ (l : LauncherIs). l.journal.past) c.make_room.ensures.same) c.crash-crash.ensures.is c.crash-crash.ensures.entered c.give_up_again.ensures.enters;
  few = search rules;
  whole = λ up ended whole.
      let l = c.crash-crash.new.self in
      let a = c.give_up_again.result in
      let down = again_down l.journal.holder c.args.service l.journal.past a.1 a.0 c.give_up_again.ensures.again in
      subst (λ (b : Bool). IsClosed g.N.Numbered.site g.N.Numbered.run_seed g.N.Staffed.children (ups_after b a.2 up) ended a.0) (sym down)
      (c.give_up_again.ensures.whole up ended (closed_entered g.N.Numbered.site g.N.Numbered.run_seed g.N.Staffed.children up ended c.make_room.new.self c.crash-crash.new.self (event.Crashed c.args.service c.args.incarnation) tt c.crash-crash.ensures.entered (closed_roomy g.N.Numbered.site g.N.Numbered.run_seed g.N.Staffed.children up ended c.args.self c.make_room.new.self c.make_room.new.self.journal.room c.make_room.ensures.same whole)));
  holder = search rules;
}

pub returns : goal.returns
returns g c = record {
  goes = let s = c.args.service in
      let k = c.args.incarnation in
      let o : CrashOpens s k c.args.self c.crash-crash.new.self = crash_opens s k c.args.self c.make_room.new.self c.crash-crash.new.self c.make_room.ensures.same c.crash-crash.ensures.entered in
      let is : k ≡ begun c.args.self.journal.past s = greatest_here s k c.greatest-greatest.result c.args.self c.crash-crash.new.self o c.requires.begun c.greatest-greatest.ensures.is c.if-incarnation-greatest.false in
      let living = not_given (given_up c.args.self.journal.past s) (ap (λ (J : List (Entry LauncherEvent)). is_some (given_up J s)) (sym o.past) ∙ (ap is_some (sym c.given_up.ensures) ∙ (sym c.is_some.ensures ∙ c.if-is_some.false))) in
      subst (λ (a : Crashed). GoesCrashed g.N.Numbered.site c.args.self.journal.holder s k c.args.self.journal.past c.args.self.crew.family a c.go_on-launcher.result.0) (sym c.crashed_as.ensures)
      (crashed_of g.N.Numbered.site c.args.self.journal.holder s k c.args.self.journal.past c.args.self.crew.family c.go_on-launcher.result.1 c.go_on-launcher.result.0 is living
      (subst (λ (x : ℕ × List (Entry LauncherEvent) × Family). Goes g.N.Numbered.site x.0 s x.1 x.2 c.go_on-launcher.result.1 c.go_on-launcher.result.0) (λ i. (o.holder i, o.past i, o.family i)) c.go_on-launcher.ensures.goes));
  enters = opens (event.Crashed c.args.service c.args.incarnation) c.crash-crash.result c.args.self.journal.holder c.args.self.journal.past c.make_room.new.self c.crash-crash.new.self c.go_on-launcher.result.2 c.go_on-launcher.result.0.journal.past
      (ap (λ (l : LauncherIs). l.journal.holder) c.make_room.ensures.same) (ap (λ (l : LauncherIs). l.journal.past) c.make_room.ensures.same) c.crash-crash.ensures.is c.crash-crash.ensures.entered c.go_on-launcher.ensures.enters;
  few = search rules;
  whole = λ up ended whole.
      let a = c.go_on-launcher.result in
      subst (λ (b : Bool). IsClosed g.N.Numbered.site g.N.Numbered.run_seed g.N.Staffed.children (ups_after b a.2 up) ended a.0) (sym (ap crash_up c.crashed_as.ensures ∙ crash_as a.1))
      (c.go_on-launcher.ensures.whole up ended (closed_entered g.N.Numbered.site g.N.Numbered.run_seed g.N.Staffed.children up ended c.make_room.new.self c.crash-crash.new.self (event.Crashed c.args.service c.args.incarnation) tt c.crash-crash.ensures.entered (closed_roomy g.N.Numbered.site g.N.Numbered.run_seed g.N.Staffed.children up ended c.args.self c.make_room.new.self c.make_room.new.self.journal.room c.make_room.ensures.same whole)));
  holder = search rules;
}
