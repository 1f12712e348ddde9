use Rattle.std.proofs.Common.{sym, subst}
use Rattle.launch_crew.specs.Crews.{StaffIs, crew_of}
use Rattle.okld_launch.proofs.Begins.{launcher_of, same_crew, asked}
use Rattle.okld_launch.specs.Failures.{FailuresAreTold}
use Rattle.okld_launch.specs.Children.{StaysAttended}
use Rattle.okld_launch.specs.Launchers.{LauncherIs}
use Rattle.okld_launch.proofs.Children.{stays_asked}
use Rattle.launch_crew.proofs.Ended.{attended_asked}
use Rattle.okld_launch.proofs.KinChange.{kin_asked}
use Rattle.okld_launch.proofs.Faults.{faults_asked}
use Rattle.okld_launch.proofs.launcher.Launcher.ended.Goals as goal

pub invariant_of-self : goal.invariant_of-self
invariant_of-self g c = record {
  site_is = c.self.invariant.site_is;
  seed_is = c.self.invariant.seed_is;
  few = c.self.invariant.few;
  failed = subst (λ (t : StaffIs). FailuresAreTold g.N.Staffed.children c.self.inside.journal.past t.family) (sym c.in-Some.ensures.is) c.self.invariant.failed;
  keeps = same_crew g.N.Numbered.site (launcher_of c.self.inside.journal c.self.inside.crew.recorder c.self.inside.crew.staff c.self.inside.ups.items) (crew_of c.self.inside.crew.recorder c.ended.new.self) (asked c.args.service c.in-Some.answer c.self.inside.crew.recorder c.self.inside.crew.staff c.ended.new.self c.in-Some.ensures) c.self.invariant.keeps;
  caused = c.self.invariant.caused;
  attended = attended_asked c.args.service c.self.inside.crew.recorder c.self.inside.crew.staff c.in-Some.answer c.ended.new.self c.in-Some.ensures c.self.invariant.attended;
  kin = kin_asked g.N.Numbered.site g.N.Numbered.run_seed g.N.Staffed.children c.self.inside.journal.past c.args.service c.self.inside.crew.recorder c.self.inside.crew.staff c.in-Some.answer c.ended.new.self c.in-Some.ensures c.self.invariant.kin;
  faults = faults_asked g.N.Staffed.children c.self.inside.journal.past c.args.service c.self.inside.crew.recorder c.self.inside.crew.staff c.in-Some.answer c.ended.new.self c.in-Some.ensures c.self.invariant.faults;
}

pub returns-clause-stays : goal.returns-clause-stays
returns-clause-stays g c = subst (λ (x : LauncherIs). StaysAttended x.crew (crew_of c.self.inside.crew.recorder c.ended.new.self)) c.self.view_is
    (stays_asked c.args.service c.in-Some.answer c.self.inside.crew.recorder c.self.inside.crew.staff c.ended.new.self c.in-Some.ensures)
