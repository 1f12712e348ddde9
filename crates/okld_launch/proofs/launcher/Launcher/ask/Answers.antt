use Rattle.std.proofs.Common.{refl, arith}
use Rattle.okws_plan.specs.declared.event.LauncherEvent.TheVariants as event
use Rattle.okld_launch.proofs.Begins.{launcher_of, entered_other}
use Rattle.okld_launch.proofs.Trying.{asked_begun}
use Rattle.okld_launch.proofs.Failing.{told_entered}
use Rattle.launch_crew.specs.Coming.{came_up}
use Rattle.std.specs.Prelude.{slice_index}
use Rattle.okld_launch.proofs.Caused.{entered_caused}
use Rattle.okld_launch.proofs.Causing.{caused_asked}
use Rattle.launch_crew.specs.Crews.{crew_of}
use Rattle.okld_launch.proofs.Kept.{kin_noted}
use Rattle.okld_launch.proofs.Faults.{faults_entered}
use Rattle.okld_launch.proofs.launcher.Launcher.ask.Goals as goal

pub invariant_of-self : goal.invariant_of-self
invariant_of-self g c = record {
  site_is = c.self.invariant.site_is;
  seed_is = c.self.invariant.seed_is;
  few = c.self.invariant.few;
  failed = told_entered g.N.Staffed.children c.self.inside.crew.staff.family (event.Asked c.args.service) c.self.inside.journal c.asked.new.self refl c.asked.ensures c.self.invariant.failed;
  keeps = entered_other g.N.Numbered.site (launcher_of c.self.inside.journal c.self.inside.crew.recorder c.self.inside.crew.staff c.self.inside.ups.items) c.asked.new.self (event.Asked c.args.service) (λ t. refl) (asked_begun c.self.inside.journal.past c.args.service) c.asked.ensures c.self.invariant.keeps;
  caused = entered_caused (launcher_of c.self.inside.journal c.self.inside.crew.recorder c.self.inside.crew.staff c.self.inside.ups.items) c.asked.new.self (event.Asked c.args.service) c.asked.ensures (caused_asked (came_up c.self.inside.crew.recorder.sat) (λ s. slice_index c.self.inside.ups.items s) c.self.inside.journal.past c.self.inside.journal.holder c.args.service c.self.invariant.caused);
  attended = c.self.invariant.attended;
  kin = kin_noted g.N.Numbered.site g.N.Numbered.run_seed g.N.Staffed.children c.self.inside.journal c.asked.new.self (event.Asked c.args.service) (crew_of c.self.inside.crew.recorder c.self.inside.crew.staff) (λ t. omega arith) c.asked.ensures c.self.invariant.kin;
  faults = faults_entered g.N.Staffed.children (event.Asked c.args.service) c.self.inside.journal c.asked.new.self (crew_of c.self.inside.crew.recorder c.self.inside.crew.staff) refl c.asked.ensures c.self.invariant.faults;
}
