use Rattle.std.proofs.Common.{rules, ◌≡◌, ◌∙◌, ℕ, ◌+◌, ◌<◌, List, Option, Some, refl, sym, subst, arith, true, Bool, false}
use Rattle.std.specs.Prelude.{option_to_list, ◌==◌}
use Rattle.okws_base.specs.declared.limit.TheConstants.{MOST_INCARNATIONS}
use Rattle.okws_plan.specs.declared.event.LauncherEvent.{LauncherEvent}
use Rattle.okws_plan.specs.declared.event.LauncherEvent.TheVariants as event
use Rattle.monitor_model.specs.Launcher.{begun}
use Rattle.launch_journal.specs.Launches.{Allows}
use Rattle.launch_journal.specs.declared.next.Next.{Next}
use Rattle.okld_launch.specs.Going.{Attempts}
use Rattle.okld_launch.specs.Entering.{Enters}
use Rattle.okld_launch.specs.declared.answer.Attempt.{Attempt}
use Rattle.okld_launch.proofs.Caused.{failed_may}
use Rattle.okld_launch.proofs.Told.{fell_next, goes_refused, goes_up, nearer}
use Rattle.okld_launch.proofs.Counting.{fell_begun, up_told, refused_told, told_as, few_as}
use Rattle.monitor_model.specs.Causes.{is_crashed_of}
use Rattle.okld_launch.specs.Ups.{is_one, oldest, ups_after}
use Rattle.okld_launch.specs.Pieces.{IsClosed, attempt_ups}
use Rattle.okld_launch.proofs.Turning.{begun_no_crash, oldest_of}
use Rattle.okld_launch.proofs.launcher.Launcher.go_on.Goals as goal

pub loop-what-init : goal.loop-what-init
loop-what-init g c = ((refl, refl), refl, c.next-what.ensures, omega (arith, c.greatest-first.ensures.is, c.greatest-first.ensures.most), c.requires.cause, λ up ended whole. whole)

pub loop-what-preserved : goal.loop-what-preserved
loop-what-preserved g c =
    let C = g.N.Numbered.site in
    let s = c.args.service in
    let w = c.args.self.journal.holder in
    let J = c.args.self.journal.past in
    let f = c.args.self.crew.family in
    let m = c.loop-what.launcher in
    let after = c.attempt-after.result.0 in
    let inv = c.loop-what.invariant in
    let begins = c.begins.ensures.yes c.loop-what-test.true in
    let may = subst (λ (x : Next). Allows C m.journal.past s x) begins inv.2 in
    let all = subst (λ (n : ℕ). Attempts C n s m.journal.past m.crew.family c.attempt-after.result.1 after) inv.1 c.attempt-after.ensures.attempts in
    let failed = subst (λ (x : Attempt). Attempts C w s m.journal.past m.crew.family x after) c.in-Failed.is all in
    let below : begun m.journal.past s < MOST_INCARNATIONS = may.0 in (
      fell_next C w s c.loop-what.failed J f m.journal.past m.crew.family after inv.0 may failed,
      c.attempt-after.ensures.holder ∙ inv.1,
      c.next-what-in-loop-what.ensures,
      omega (arith, below, fell_begun C w s c.loop-what.failed J f m.journal.past m.crew.family inv.0),
      failed_may w s m.journal.past after failed.0,
      λ up ended whole. subst (λ (x : Attempt). IsClosed C g.N.Numbered.run_seed g.N.Staffed.children (attempt_ups s x up) ended after) c.in-Failed.is (c.attempt-after.ensures.whole up ended (inv.5 up ended whole)),
    )

pub loop-what-smaller : goal.loop-what-smaller
loop-what-smaller g c =
    let C = g.N.Numbered.site in
    let s = c.args.service in
    let m = c.loop-what.launcher in
    let after = c.attempt-after.result.0 in
    let begins = c.begins.ensures.yes c.loop-what-test.true in
    let may = subst (λ (x : Next). Allows C m.journal.past s x) begins c.loop-what.invariant.2 in
    let failed = subst (λ (x : Attempt). Attempts C m.journal.holder s m.journal.past m.crew.family x after) c.in-Failed.is c.attempt-after.ensures.attempts in
    nearer C m.journal.holder s m.journal.past m.crew.family after may failed

pub returns-in-Up : goal.returns-in-Up
returns-in-Up g c = record {
  goes = let C = g.N.Numbered.site in
      let s = c.args.service in
      let w = c.args.self.journal.holder in
      let m = c.loop-what.launcher in
      let after = c.attempt-after.result.0 in
      let inv = c.loop-what.invariant in
      let begins = c.begins.ensures.yes c.loop-what-test.true in
      let may = subst (λ (x : Next). Allows C m.journal.past s x) begins inv.2 in
      let all = subst (λ (n : ℕ). Attempts C n s m.journal.past m.crew.family c.attempt-after.result.1 after) inv.1 c.attempt-after.ensures.attempts in
      let up = subst (λ (x : Attempt). Attempts C w s m.journal.past m.crew.family x after) c.in-Up.is all in
      goes_up C w s c.loop-what.failed c.in-Up.incarnation c.args.self.journal.past c.args.self.crew.family m.journal.past m.crew.family after inv.0 may up;
  enters = let C = g.N.Numbered.site in
      let s = c.args.service in
      let w = c.args.self.journal.holder in
      let m = c.loop-what.launcher in
      let after = c.attempt-after.result.0 in
      let inv = c.loop-what.invariant in
      let all = subst (λ (n : ℕ). Attempts C n s m.journal.past m.crew.family c.attempt-after.result.1 after) inv.1 c.attempt-after.ensures.attempts in
      let up = subst (λ (x : Attempt). Attempts C w s m.journal.past m.crew.family x after) c.in-Up.is all in
      told_as C w s c.loop-what.failed c.greatest-first.result c.args.self.journal.past c.args.self.crew.family m.journal.past m.crew.family c.args.opening (Some (event.Begun s c.in-Up.incarnation)) after.journal.past c.new-entered.result
      c.new-entered.ensures c.greatest-first.ensures.is inv.0 (up_told C w s c.in-Up.incarnation m.journal.past m.crew.family after up);
  few = let m = c.loop-what.launcher in
      few_as g.N.Numbered.site c.args.self.journal.holder c.args.service c.loop-what.failed c.greatest-first.result c.args.self.journal.past c.args.self.crew.family m.journal.past m.crew.family c.args.opening (Some (event.Begun c.args.service c.in-Up.incarnation)) c.new-entered.result
      c.new-entered.ensures c.greatest-first.ensures.is c.keeps.ensures.is.tried_are c.loop-what.invariant.0;
  whole = λ up ended whole.
      let C = g.N.Numbered.site in
      let after = c.attempt-after.result.0 in
      let h = subst (λ (x : Attempt). IsClosed C g.N.Numbered.run_seed g.N.Staffed.children (attempt_ups c.args.service x up) ended after) c.in-Up.is (c.attempt-after.ensures.whole up ended (c.loop-what.invariant.5 up ended whole)) in
      subst (λ (events : List LauncherEvent). IsClosed C g.N.Numbered.run_seed g.N.Staffed.children (ups_after true events up) ended after) (sym c.new-entered.ensures) h;
  oldest = λ t j.
      subst (λ (events : List LauncherEvent). is_one (is_crashed_of t j) (oldest events) ≡ is_one (is_crashed_of t j) c.args.opening) (sym c.new-entered.ensures)
      (oldest_of t j c.args.opening c.args.service (c.greatest-first.result + 1) c.loop-what.failed (Some (event.Begun c.args.service c.in-Up.incarnation)) refl);
  holder = c.attempt-after.ensures.holder ∙ c.loop-what.invariant.1;
}

pub returns-in-NoMemory : goal.returns-in-NoMemory
returns-in-NoMemory g c = record {
  goes = let C = g.N.Numbered.site in
      let s = c.args.service in
      let w = c.args.self.journal.holder in
      let m = c.loop-what.launcher in
      let after = c.attempt-after.result.0 in
      let inv = c.loop-what.invariant in
      let begins = c.begins.ensures.yes c.loop-what-test.true in
      let may = subst (λ (x : Next). Allows C m.journal.past s x) begins inv.2 in
      let all = subst (λ (n : ℕ). Attempts C n s m.journal.past m.crew.family c.attempt-after.result.1 after) inv.1 c.attempt-after.ensures.attempts in
      let refused = subst (λ (x : Attempt). Attempts C w s m.journal.past m.crew.family x after) c.in-NoMemory.is all in
      goes_refused C w s c.loop-what.failed c.args.self.journal.past c.args.self.crew.family m.journal.past m.crew.family after inv.0 may refused;
  enters = let C = g.N.Numbered.site in
      let s = c.args.service in
      let w = c.args.self.journal.holder in
      let m = c.loop-what.launcher in
      let after = c.attempt-after.result.0 in
      let inv = c.loop-what.invariant in
      let k = c.greatest-first.result + 1 + c.loop-what.failed in
      let all = subst (λ (n : ℕ). Attempts C n s m.journal.past m.crew.family c.attempt-after.result.1 after) inv.1 c.attempt-after.ensures.attempts in
      let refused = subst (λ (x : Attempt). Attempts C w s m.journal.past m.crew.family x after) c.in-NoMemory.is all in
      let follows : k ≡ begun m.journal.past s + 1 = omega (arith, c.greatest-first.ensures.is, fell_begun C w s c.loop-what.failed c.args.self.journal.past c.args.self.crew.family m.journal.past m.crew.family inv.0) in
      let closes : Enters w (option_to_list c.last_begun-begun.result) m.journal.past after.journal.past =
      subst (λ (x : Option LauncherEvent). Enters w (option_to_list x) m.journal.past after.journal.past) (sym c.last_begun-begun.ensures) (refused_told C w s k m.journal.past m.crew.family after follows refused) in
      told_as C w s c.loop-what.failed c.greatest-first.result c.args.self.journal.past c.args.self.crew.family m.journal.past m.crew.family c.args.opening c.last_begun-begun.result after.journal.past c.new-entered-in-NoMemory.result
      c.new-entered-in-NoMemory.ensures c.greatest-first.ensures.is inv.0 closes;
  few = let m = c.loop-what.launcher in
      few_as g.N.Numbered.site c.args.self.journal.holder c.args.service c.loop-what.failed c.greatest-first.result c.args.self.journal.past c.args.self.crew.family m.journal.past m.crew.family c.args.opening c.last_begun-begun.result c.new-entered-in-NoMemory.result
      c.new-entered-in-NoMemory.ensures c.greatest-first.ensures.is c.keeps.ensures.is.tried_are c.loop-what.invariant.0;
  whole = λ up ended whole.
      subst (λ (x : Attempt). IsClosed g.N.Numbered.site g.N.Numbered.run_seed g.N.Staffed.children (attempt_ups c.args.service x up) ended c.attempt-after.result.0) c.in-NoMemory.is (c.attempt-after.ensures.whole up ended (c.loop-what.invariant.5 up ended whole));
  oldest = λ t j.
      let s = c.args.service in
      let k = c.greatest-first.result + 1 + c.loop-what.failed in
      subst (λ (events : List LauncherEvent). is_one (is_crashed_of t j) (oldest events) ≡ is_one (is_crashed_of t j) c.args.opening) (sym c.new-entered-in-NoMemory.ensures)
      (oldest_of t j c.args.opening c.args.service (c.greatest-first.result + 1) c.loop-what.failed c.last_begun-begun.result (subst (λ (e : Option LauncherEvent). is_one (is_crashed_of t j) e ≡ false) (sym c.last_begun-begun.ensures) (begun_no_crash t j s k (begun c.attempt-after.result.0.journal.past s == k))));
  holder = c.attempt-after.ensures.holder ∙ c.loop-what.invariant.1;
}

pub returns : goal.returns
returns g c = record {
  goes = search rules;
  enters = let w = c.args.self.journal.holder in
      let m = c.loop-what.launcher in
      let inv = c.loop-what.invariant in
      let closes = subst (λ (n : ℕ). Enters n (option_to_list c.end-launcher.result.2) m.journal.past c.end-launcher.result.0.journal.past) inv.1 c.end-launcher.ensures.enters in
      told_as g.N.Numbered.site w c.args.service c.loop-what.failed c.greatest-first.result c.args.self.journal.past c.args.self.crew.family m.journal.past m.crew.family c.args.opening c.end-launcher.result.2 c.end-launcher.result.0.journal.past c.new-entered-2.result
      c.new-entered-2.ensures c.greatest-first.ensures.is inv.0 closes;
  few = let m = c.loop-what.launcher in
      few_as g.N.Numbered.site c.args.self.journal.holder c.args.service c.loop-what.failed c.greatest-first.result c.args.self.journal.past c.args.self.crew.family m.journal.past m.crew.family c.args.opening c.end-launcher.result.2 c.new-entered-2.result
      c.new-entered-2.ensures c.greatest-first.ensures.is c.keeps.ensures.is.tried_are c.loop-what.invariant.0;
  whole = λ up ended whole.
      subst (λ (b : Bool). IsClosed g.N.Numbered.site g.N.Numbered.run_seed g.N.Staffed.children (ups_after b c.new-entered-2.result up) ended c.end-launcher.result.0) (sym c.end-launcher.ensures.down) (c.end-launcher.ensures.whole up ended (c.loop-what.invariant.5 up ended whole));
  oldest = λ t j.
      subst (λ (events : List LauncherEvent). is_one (is_crashed_of t j) (oldest events) ≡ is_one (is_crashed_of t j) c.args.opening) (sym c.new-entered-2.ensures)
      (oldest_of t j c.args.opening c.args.service (c.greatest-first.result + 1) c.loop-what.failed c.end-launcher.result.2 (c.end-launcher.ensures.closing t j));
  holder = c.end-launcher.ensures.holder ∙ c.loop-what.invariant.1;
}
