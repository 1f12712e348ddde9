use Rattle.std.proofs.Common.{◌≡◌, refl, sym, subst, arith}
use Rattle.okws_plan.specs.declared.event.LauncherEvent.TheVariants as event
use Rattle.monitor_model.specs.Launcher.{begun}
use Rattle.okld_launch.specs.Launchers.{LauncherIs, MayFail}
use Rattle.okld_launch.proofs.Begins.{launcher_of, entered_other}
use Rattle.okld_launch.proofs.Trying.{failed_begun}
use Rattle.okld_launch.specs.Failures.{FailuresAreTold, FaultsAreTold}
use Rattle.launch_journal.specs.Launches.{Launches}
use Rattle.launch_crew.specs.Coming.{came_up}
use Rattle.std.specs.Prelude.{slice_index}
use Rattle.okld_launch.proofs.Caused.{entered_caused}
use Rattle.okld_launch.proofs.Causing.{caused_failed}
use Rattle.launch_crew.specs.Crews.{crew_of}
use Rattle.okld_launch.proofs.Kept.{kin_noted}
use Rattle.okld_launch.proofs.launcher.Launcher.fail.Goals as goal

pub invariant_of-self : goal.invariant_of-self
invariant_of-self g c = record {
  site_is = c.self.invariant.site_is;
  seed_is = c.self.invariant.seed_is;
  few = c.self.invariant.few;
  failed = subst (λ (j : Launches). FailuresAreTold g.N.Staffed.children j.past c.self.inside.crew.staff.family) (sym c.failed.ensures) (subst (MayFail g.N.Staffed.children c.args.service c.args.incarnation) (sym c.self.view_is) c.requires.fault).failed;
  keeps = entered_other g.N.Numbered.site (launcher_of c.self.inside.journal c.self.inside.crew.recorder c.self.inside.crew.staff c.self.inside.ups.items) c.failed.new.self (event.Failed c.args.service c.args.incarnation) (λ t. refl) (failed_begun c.self.inside.journal.past c.args.service c.args.incarnation (subst (λ (x : LauncherIs). c.args.incarnation ≡ begun x.journal.past c.args.service) (sym c.self.view_is) c.requires.begun)) c.failed.ensures c.self.invariant.keeps;
  caused = entered_caused (launcher_of c.self.inside.journal c.self.inside.crew.recorder c.self.inside.crew.staff c.self.inside.ups.items) c.failed.new.self (event.Failed c.args.service c.args.incarnation) c.failed.ensures (caused_failed (came_up c.self.inside.crew.recorder.sat) (λ s. slice_index c.self.inside.ups.items s) c.self.inside.journal.past c.self.inside.journal.holder c.args.service c.self.invariant.caused c.args.incarnation (subst (λ (x : LauncherIs). c.args.incarnation ≡ begun x.journal.past c.args.service) (sym c.self.view_is) c.requires.begun));
  attended = c.self.invariant.attended;
  kin = kin_noted g.N.Numbered.site g.N.Numbered.run_seed g.N.Staffed.children c.self.inside.journal c.failed.new.self (event.Failed c.args.service c.args.incarnation) (crew_of c.self.inside.crew.recorder c.self.inside.crew.staff) (λ t. omega arith) c.failed.ensures c.self.invariant.kin;
  faults = subst (λ (j : Launches). FaultsAreTold g.N.Staffed.children j.past (crew_of c.self.inside.crew.recorder c.self.inside.crew.staff)) (sym c.failed.ensures) (subst (MayFail g.N.Staffed.children c.args.service c.args.incarnation) (sym c.self.view_is) c.requires.fault).faults;
}
