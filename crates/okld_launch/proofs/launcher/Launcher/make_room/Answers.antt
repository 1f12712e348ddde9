use Rattle.std.proofs.Common.{refl, sym, ap, subst}
use Rattle.launch_journal.specs.Launches.{Launches}
use Rattle.okld_launch.proofs.Begins.{launcher_of, same_entries}
use Rattle.okld_launch.specs.Failures.{FailuresAreTold}
use Rattle.okld_launch.proofs.Caused.{kept_caused}
use Rattle.launch_crew.specs.Crews.{crew_of}
use Rattle.okld_launch.proofs.Kept.{kin_past}
use Rattle.okld_launch.proofs.Faults.{faults_past}
use Rattle.okld_launch.proofs.launcher.Launcher.make_room.Goals as goal

pub invariant_of-self : goal.invariant_of-self
invariant_of-self g c = record {
  site_is = c.self.invariant.site_is;
  seed_is = c.self.invariant.seed_is;
  few = c.self.invariant.few;
  failed = subst (λ (j : Launches). FailuresAreTold g.N.Staffed.children j.past c.self.inside.crew.staff.family) (sym c.make_room.ensures.same) c.self.invariant.failed;
  keeps = same_entries g.N.Numbered.site (launcher_of c.self.inside.journal c.self.inside.crew.recorder c.self.inside.crew.staff c.self.inside.ups.items) c.make_room.new.self (ap (λ (x : Launches). x.config) c.make_room.ensures.same) (ap (λ (x : Launches). x.past) c.make_room.ensures.same) c.self.invariant.keeps;
  caused = kept_caused (launcher_of c.self.inside.journal c.self.inside.crew.recorder c.self.inside.crew.staff c.self.inside.ups.items) (launcher_of c.make_room.new.self c.self.inside.crew.recorder c.self.inside.crew.staff c.self.inside.ups.items) (ap (λ (x : Launches). x.past) c.make_room.ensures.same) (λ s k. refl) refl c.self.invariant.caused;
  attended = c.self.invariant.attended;
  kin = kin_past g.N.Numbered.site g.N.Numbered.run_seed g.N.Staffed.children c.self.inside.journal.past c.make_room.new.self.past (crew_of c.self.inside.crew.recorder c.self.inside.crew.staff) (ap (λ (x : Launches). x.past) c.make_room.ensures.same) c.self.invariant.kin;
  faults = faults_past g.N.Staffed.children c.self.inside.journal.past c.make_room.new.self.past (crew_of c.self.inside.crew.recorder c.self.inside.crew.staff) (ap (λ (x : Launches). x.past) c.make_room.ensures.same) c.self.invariant.faults;
}
