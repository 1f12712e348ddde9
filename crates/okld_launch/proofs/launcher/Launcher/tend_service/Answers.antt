use Rattle.std.proofs.Common.{rules, ◌∙◌, sym, ap, subst, inl, ℕ, Bool, true, List, length}
use Rattle.okws_plan.specs.declared.event.LauncherEvent.TheVariants as event
use Rattle.monitor_model.specs.Causes.{is_crashed_of}
use Rattle.launch_crew.specs.Coming.{came_up}
use Rattle.okld_launch.specs.Launchers.{LauncherIs, up_in}
use Rattle.okld_launch.specs.Going.{GoesTended}
use Rattle.okld_launch.specs.declared.answer.Tended.{Tended}
use Rattle.okld_launch.proofs.Caused.{tended_may}
use Rattle.okld_launch.proofs.Causing.{down_follows}
use Rattle.okld_launch.proofs.Opening.{opens}
use Rattle.okld_launch.proofs.Told.{tended_of, tends_crashed}
use Rattle.okld_launch.proofs.OnWay.{closed_asked, closed_ended, closed_entered, closed_roomy}
use Rattle.okws_plan.specs.declared.event.LauncherEvent.{LauncherEvent}
use Rattle.okld_launch.specs.Ups.{ends_after, tend_up, ups_after, launch_up}
use Rattle.okld_launch.specs.Pieces.{IsClosed, with_up}
use Rattle.okld_launch.proofs.Turning.{ends_crashed, ends_none, tend_as}
use Rattle.okld_launch.proofs.Attending.{told_yes}
use Rattle.okld_launch.proofs.launcher.Launcher.tend_service.Goals as goal

pub go_on-launcher-requires-clause-cause : goal.go_on-launcher-requires-clause-cause
go_on-launcher-requires-clause-cause g c = down_follows (came_up c.args.self.crew.sat) (up_in c.args.self) c.args.self.journal.past c.args.service c.in_default-up_now.ensures.none c.keeps.ensures.caused

pub go_on-launcher-requires-2-clause-cause : goal.go_on-launcher-requires-2-clause-cause
go_on-launcher-requires-2-clause-cause g c =
    tended_may c.args.service c.in-Some-up_now.incarnation c.args.self c.ended.new.self c.make_room.new.self c.crash-crash.new.self c.in-Some-up_now.ensures.some.0 c.ended.ensures.same c.make_room.ensures.same c.crash-crash.ensures.entered c.keeps.ensures.caused

pub returns-in-Some : goal.returns-in-Some
returns-in-Some g c = record {
  goes = search rules;
  enters = search rules;
  few = search rules;
  whole = λ up ended whole.
      subst (λ (events : List LauncherEvent). IsClosed g.N.Numbered.site g.N.Numbered.run_seed g.N.Staffed.children up (ends_after true events ended) c.args.self) (sym c.nothing.ensures) whole;
  holder = search rules;
}

pub returns-in_default-up_now : goal.returns-in_default-up_now
returns-in_default-up_now g c = record {
  goes = let C = g.N.Numbered.site in
      let s = c.args.service in
      let old = c.args.self in
      let launched = c.go_on-launcher.result.1 in
      let new = c.go_on-launcher.result.0 in
      subst (λ (t : Tended). GoesTended C old.journal.holder s old t new) (sym c.tended_as.ensures) (tended_of C old.journal.holder s old launched new (inl (c.in_default-up_now.ensures.none, c.go_on-launcher.ensures.goes)));
  enters = search rules;
  few = search rules;
  whole = λ up ended whole.
      let C = g.N.Numbered.site in
      let seed = g.N.Numbered.run_seed in
      let first = g.N.Staffed.children in
      let a = c.go_on-launcher.result in
      subst (λ (b : Bool). IsClosed C seed first (ups_after b a.2 up) (ends_after true a.2 ended) a.0) (sym (ap tend_up c.tended_as.ensures ∙ tend_as a.1))
      (subst (λ (e : ℕ → ℕ → Bool). IsClosed C seed first (ups_after (launch_up a.1) a.2 up) e a.0) (sym (ends_none a.2 ended c.go_on-launcher.ensures.oldest)) (c.go_on-launcher.ensures.whole up ended whole));
  holder = search rules;
}

pub returns-in-No : goal.returns-in-No
returns-in-No g c = record {
  goes = search rules;
  enters = search rules;
  few = search rules;
  whole = λ up ended whole.
      let asked = closed_asked g.N.Numbered.site g.N.Numbered.run_seed g.N.Staffed.children up ended c.args.self c.ended.new.self c.ended.ensures.same c.ended.ensures.stays whole in
      subst (λ (events : List LauncherEvent). IsClosed g.N.Numbered.site g.N.Numbered.run_seed g.N.Staffed.children up (ends_after true events ended) c.ended.new.self) (sym c.nothing-in-No.ensures) asked;
  holder = search rules;
}

pub returns-then-is_err : goal.returns-then-is_err
returns-then-is_err g c = record {
  goes = search rules;
  enters = search rules;
  few = search rules;
  whole = λ up ended whole.
      let asked = closed_asked g.N.Numbered.site g.N.Numbered.run_seed g.N.Staffed.children up ended c.args.self c.ended.new.self c.ended.ensures.same c.ended.ensures.stays whole in
      let roomy = closed_roomy g.N.Numbered.site g.N.Numbered.run_seed g.N.Staffed.children up ended c.ended.new.self c.make_room.new.self c.make_room.new.self.journal.room c.make_room.ensures.same asked in
      subst (λ (events : List LauncherEvent). IsClosed g.N.Numbered.site g.N.Numbered.run_seed g.N.Staffed.children up (ends_after true events ended) c.make_room.new.self) (sym c.nothing-then-is_err.ensures) roomy;
  holder = search rules;
}

pub returns : goal.returns
returns g c = record {
  goes = let C = g.N.Numbered.site in
      let s = c.args.service in
      let old = c.args.self in
      let launched = c.go_on-launcher-2.result.1 in
      let new = c.go_on-launcher-2.result.0 in
      let tends = tends_crashed C s c.in-Some-up_now.incarnation old c.ended.new.self c.make_room.new.self c.crash-crash.new.self launched new c.in-Some-up_now.ensures.some.0 c.in-Some-up_now.ensures.some.1 (sym c.given_up.ensures ∙ c.in_default.is) c.in-Yes.ensures.asks c.ended.ensures.same c.make_room.ensures.same c.crash-crash.ensures.entered c.go_on-launcher-2.ensures.goes in
      subst (λ (t : Tended). GoesTended C old.journal.holder s old t new) (sym c.tended_as-2.ensures) (tended_of C old.journal.holder s old launched new tends);
  enters = opens (event.Crashed c.args.service c.in-Some-up_now.incarnation) c.crash-crash.result c.args.self.journal.holder c.args.self.journal.past c.make_room.new.self c.crash-crash.new.self c.go_on-launcher-2.result.2 c.go_on-launcher-2.result.0.journal.past
      (ap (λ (l : LauncherIs). l.journal.holder) c.make_room.ensures.same ∙ ap (λ (l : LauncherIs). l.journal.holder) c.ended.ensures.same) (ap (λ (l : LauncherIs). l.journal.past) c.make_room.ensures.same ∙ ap (λ (l : LauncherIs). l.journal.past) c.ended.ensures.same) c.crash-crash.ensures.is c.crash-crash.ensures.entered c.go_on-launcher-2.ensures.enters;
  few = search rules;
  whole = λ up ended whole.
      let C = g.N.Numbered.site in
      let seed = g.N.Numbered.run_seed in
      let first = g.N.Staffed.children in
      let s = c.args.service in
      let k = c.in-Some-up_now.incarnation in
      let a = c.go_on-launcher-2.result in
      let asked = closed_asked g.N.Numbered.site g.N.Numbered.run_seed g.N.Staffed.children up ended c.args.self c.ended.new.self c.ended.ensures.same c.ended.ensures.stays whole in
      let yes = told_yes C s k c.args.self c.ended.new.self c.in-Yes.ensures.asks c.in-Some-up_now.ensures.some.0 c.in-Some-up_now.ensures.some.1 c.keeps.ensures.is (length first.finished) in
      let said = closed_ended C seed first up ended c.ended.new.self s k yes asked in
      let roomy = closed_roomy C seed first up (with_up s k ended) c.ended.new.self c.make_room.new.self c.make_room.new.self.journal.room c.make_room.ensures.same said in
      let crashed = closed_entered C seed first up (with_up s k ended) c.make_room.new.self c.crash-crash.new.self (event.Crashed s k) tt c.crash-crash.ensures.entered roomy in
      let went = c.go_on-launcher-2.ensures.whole up (with_up s k ended) crashed in
      subst (λ (b : Bool). IsClosed C seed first (ups_after b a.2 up) (ends_after true a.2 ended) a.0) (sym (ap tend_up c.tended_as-2.ensures ∙ tend_as a.1))
      (subst (λ (e : ℕ → ℕ → Bool). IsClosed C seed first (ups_after (launch_up a.1) a.2 up) e a.0) (sym (ends_crashed a.2 ended s k (λ t j. c.go_on-launcher-2.ensures.oldest t j ∙ ap (is_crashed_of t j) c.crash-crash.ensures.is))) went);
  holder = search rules;
}
