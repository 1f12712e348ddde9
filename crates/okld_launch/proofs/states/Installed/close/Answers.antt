use Rattle.std.proofs.Common.{◌∙◌, ◌+◌, Err, ap, arith, length, subst, sym}
use Rattle.std.specs.Prelude.{slice_index}
use Rattle.okws_base.specs.declared.limit.TheConstants.{MOST_PROXIES}
use Rattle.okws_plan.specs.Configuration.{cols}
use Rattle.okws_plan.specs.declared.event.LauncherEvent.TheVariants as event
use Rattle.okws_outer.specs.Families.{Family}
use Rattle.launch_journal.specs.Launches.{Launches}
use Rattle.site_locks.specs.Sat.{Sat}
use Rattle.launch_crew.specs.Crews.{StandsAt}
use Rattle.launch_crew.specs.Told.{FailsBy}
use Rattle.okld_launch.specs.Going.{Closes, with_entry}
use Rattle.okld_launch.specs.Pieces.{HasInstalled}
use Rattle.okld_launch.specs.States.{GoesOn, LaunchIs}
use Rattle.okld_launch.specs.declared.answer.Attempt.TheVariants as attempt
use Rattle.okld_launch.proofs.Attending.{closes_as}
use Rattle.okld_launch.proofs.OnWay.{way_misses, way_starts}
use Rattle.okld_launch.proofs.Stating.{begins_on, goes_on, launch_of}
use Rattle.okld_launch.proofs.Told.{closes_on}
use Rattle.okld_launch.proofs.states.Installed.close.Goals as goal

pub invariant_of-booted : goal.invariant_of-booted
invariant_of-booted g c = record {
  begins = begins_on g.N.Numbered.site (MOST_PROXIES + 4) (MOST_PROXIES + 3) c.self.inside.launcher c.start.new.self c.self.inside.service c.self.inside.incarnation c.self.invariant.begins c.start.ensures.journal (omega (arith, c.start.ensures.room));
  stands = subst (λ (x : Sat). StandsAt g.N.Numbered.site c.self.inside.service c.self.inside.incarnation x) (sym c.start.ensures.columns) c.self.invariant.stands;
  child = c.in-Ok.ensures.child;
  down = ap (λ us. slice_index us c.self.inside.service) c.start.ensures.ups ∙ c.self.invariant.down;
}

pub invariant_of-broken : goal.invariant_of-broken
invariant_of-broken g c = record {
  begins = begins_on g.N.Numbered.site (MOST_PROXIES + 4) (MOST_PROXIES + 2) c.self.inside.launcher c.start.new.self c.self.inside.service c.self.inside.incarnation c.self.invariant.begins c.start.ensures.journal (omega (arith, c.start.ensures.room));
  down = ap (λ us. slice_index us c.self.inside.service) c.start.ensures.ups ∙ c.self.invariant.down;
}

pub fail-requires : goal.fail-requires
fail-requires g c = c.in-Err.ensures.fault (ap Err c.in-Failed.is)

pub returns-in-Ok : goal.returns-in-Ok
returns-in-Ok g c =
    let C = g.N.Numbered.site in
    let seed = g.N.Numbered.run_seed in
    let first = g.N.Staffed.children in
    let old = c.self.inside.launcher in
    let new = c.start.new.self in
    let s = c.self.inside.service in
    let k = c.self.inside.incarnation in
    let a = c.close.result in
    let on = subst (λ (x : LaunchIs). GoesOn x (launch_of new s k)) c.self.view_is (goes_on old new s k c.start.ensures.journal c.start.ensures.told) in
    record {
      closes = closes_on C c.args.self (launch_of new s k) a.1 a.0 on c.close.ensures.closes;
      whole = λ up ended way. closes_as C seed first up ended c.args.self (launch_of new s k) a.1 a.0 on
          (c.close.ensures.whole up ended (way_starts C seed first up ended old new s k c.start.ensures.journal (c.start.ensures.stays c.self.invariant.child) c.start.ensures.behind c.start.ensures.counted c.in-Ok.ensures.added (subst (HasInstalled C seed first up ended) (sym c.self.view_is) way)));
      holder = c.close.ensures.holder ∙ ap (λ (j : Launches). j.holder) on.journal_is;
    }

pub returns-in-Failed : goal.returns-in-Failed
returns-in-Failed g c =
    let C = g.N.Numbered.site in
    let seed = g.N.Numbered.run_seed in
    let first = g.N.Staffed.children in
    let old = c.self.inside.launcher in
    let new = c.start.new.self in
    let s = c.self.inside.service in
    let k = c.self.inside.incarnation in
    let same = c.start.ensures.journal in
    record {
      closes = subst (λ (x : LaunchIs). Closes C x.launcher.journal.holder x attempt.Failed c.fail.result) c.self.view_is (
        ap (λ (j : Launches). j.past) c.fail.ensures.journal ∙ (λ i. with_entry ((same i).holder) (event.Failed s k) ((same i).past)),
        subst (λ (f : Family). FailsBy s k old.crew.family f) (sym c.fail.ensures.family) (c.in-Err.ensures.cause (ap Err c.in-Failed.is)),
        c.fail.ensures.down,
      );
      whole = λ up ended way. c.fail.ensures.whole up ended
          (way_misses C seed first up ended old new s k c.start.ensures.journal (c.start.ensures.stays c.self.invariant.child) c.start.ensures.behind c.start.ensures.counted c.in-Err.ensures.kept (length (cols C s)) (subst (HasInstalled C seed first up ended) (sym c.self.view_is) way));
      holder = ap (λ (j : Launches). j.holder) c.fail.ensures.journal ∙ (ap (λ (j : Launches). j.holder) same ∙ ap (λ (x : LaunchIs). x.launcher.journal.holder) c.self.view_is);
    }

pub returns-in-NoMemory : goal.returns-in-NoMemory
returns-in-NoMemory g c =
    let C = g.N.Numbered.site in
    let seed = g.N.Numbered.run_seed in
    let first = g.N.Staffed.children in
    let old = c.self.inside.launcher in
    let new = c.start.new.self in
    let s = c.self.inside.service in
    let k = c.self.inside.incarnation in
    let same = c.revoke.ensures.journal ∙ c.start.ensures.journal in
    record {
      closes = subst (λ (x : LaunchIs). Closes C x.launcher.journal.holder x attempt.NoMemory c.revoke.result) c.self.view_is (ap (λ (j : Launches). j.past) same, c.revoke.ensures.out);
      whole = λ up ended way. c.revoke.ensures.whole up ended
          (length (cols C s), way_misses C seed first up ended old new s k c.start.ensures.journal (c.start.ensures.stays c.self.invariant.child) c.start.ensures.behind c.start.ensures.counted c.in-Err.ensures.kept (length (cols C s)) (subst (HasInstalled C seed first up ended) (sym c.self.view_is) way));
      holder = ap (λ (j : Launches). j.holder) same ∙ ap (λ (x : LaunchIs). x.launcher.journal.holder) c.self.view_is;
    }
