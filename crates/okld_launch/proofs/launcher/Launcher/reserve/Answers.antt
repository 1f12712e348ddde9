use Rattle.std.proofs.Common.{refl, sym, ap, subst}
use Rattle.launch_journal.specs.Launches.{Launches}
use Rattle.launch_crew.specs.Crews.{crew_of}
use Rattle.launch_crew.specs.Recorded.{Recorded}
use Rattle.okld_launch.proofs.Begins.{launcher_of, same_entries, same_crew, roomier}
use Rattle.okld_launch.specs.Failures.{FailuresAreTold}
use Rattle.okld_launch.proofs.Caused.{kept_caused}
use Rattle.launch_crew.proofs.Coming.{none_same}
use Rattle.launch_crew.proofs.Ended.{attended_same}
use Rattle.okld_launch.proofs.Kept.{kin_moved, kin_past}
use Rattle.okld_launch.proofs.Boots.{boots_kept}
use Rattle.okld_launch.proofs.Faults.{faults_kept, faults_past}
use Rattle.okld_launch.proofs.launcher.Launcher.reserve.Goals as goal

pub invariant_of-self : goal.invariant_of-self
invariant_of-self g c = record {
  site_is = c.self.invariant.site_is;
  seed_is = c.self.invariant.seed_is;
  few = c.self.invariant.few;
  failed = subst (λ (j : Launches). FailuresAreTold g.N.Staffed.children j.past c.self.inside.crew.staff.family) (sym c.make_room.ensures.same) c.self.invariant.failed;
  keeps = same_entries g.N.Numbered.site (launcher_of c.self.inside.journal c.self.inside.crew.recorder c.self.inside.crew.staff c.self.inside.ups.items) c.make_room.new.self (ap (λ (x : Launches). x.config) c.make_room.ensures.same) (ap (λ (x : Launches). x.past) c.make_room.ensures.same) c.self.invariant.keeps;
  caused = kept_caused (launcher_of c.self.inside.journal c.self.inside.crew.recorder c.self.inside.crew.staff c.self.inside.ups.items) (launcher_of c.make_room.new.self c.self.inside.crew.recorder c.self.inside.crew.staff c.self.inside.ups.items) (ap (λ (x : Launches). x.past) c.make_room.ensures.same) (λ s k. refl) refl c.self.invariant.caused;
  attended = c.self.invariant.attended;
  kin = kin_past g.N.Numbered.site g.N.Numbered.run_seed g.N.Staffed.children c.self.inside.journal.past c.make_room.new.self.past (crew_of c.self.inside.crew.recorder c.self.inside.crew.staff) (ap (λ (x : Launches). x.past) c.make_room.ensures.same) c.self.invariant.kin;
  faults = faults_past g.N.Staffed.children c.self.inside.journal.past c.make_room.new.self.past (crew_of c.self.inside.crew.recorder c.self.inside.crew.staff) (ap (λ (x : Launches). x.past) c.make_room.ensures.same) c.self.invariant.faults;
}

pub invariant_of-self-2 : goal.invariant_of-self-2
invariant_of-self-2 g c = record {
  site_is = c.self.invariant.site_is;
  seed_is = c.self.invariant.seed_is;
  few = c.self.invariant.few;
  failed = subst (λ (j : Launches). FailuresAreTold g.N.Staffed.children j.past c.self.inside.crew.staff.family) (sym c.make_room.ensures.same) c.self.invariant.failed;
  keeps = same_crew g.N.Numbered.site (launcher_of c.make_room.new.self c.self.inside.crew.recorder c.self.inside.crew.staff c.self.inside.ups.items) (crew_of c.make_room-2.new.self c.self.inside.crew.staff)
      (roomier (crew_of c.self.inside.crew.recorder c.self.inside.crew.staff) (crew_of c.make_room-2.new.self c.self.inside.crew.staff) c.make_room-2.new.self.room (ap (λ (r : Recorded). crew_of r c.self.inside.crew.staff) c.make_room-2.ensures.same) c.make_room-2.ensures.room)
      (same_entries g.N.Numbered.site (launcher_of c.self.inside.journal c.self.inside.crew.recorder c.self.inside.crew.staff c.self.inside.ups.items) c.make_room.new.self (ap (λ (x : Launches). x.config) c.make_room.ensures.same) (ap (λ (x : Launches). x.past) c.make_room.ensures.same) c.self.invariant.keeps);
  caused = kept_caused (launcher_of c.self.inside.journal c.self.inside.crew.recorder c.self.inside.crew.staff c.self.inside.ups.items) (launcher_of c.make_room.new.self c.make_room-2.new.self c.self.inside.crew.staff c.self.inside.ups.items) (ap (λ (x : Launches). x.past) c.make_room.ensures.same) (none_same c.self.inside.crew.recorder.sat c.make_room-2.new.self.sat (ap (λ (r : Recorded). r.sat) c.make_room-2.ensures.same)) refl c.self.invariant.caused;
  attended = attended_same (crew_of c.self.inside.crew.recorder c.self.inside.crew.staff) (crew_of c.make_room-2.new.self c.self.inside.crew.staff) (ap (λ (r : Recorded). r.watch) c.make_room-2.ensures.same) refl c.self.invariant.attended;
  kin = kin_moved g.N.Numbered.site g.N.Numbered.run_seed g.N.Staffed.children c.make_room.new.self.past (crew_of c.self.inside.crew.recorder c.self.inside.crew.staff) (crew_of c.make_room-2.new.self c.self.inside.crew.staff) refl refl (ap (λ (r : Recorded). r.watch) c.make_room-2.ensures.same) (boots_kept c.self.inside.crew.recorder.own c.make_room-2.new.self.own (ap (λ (r : Recorded). r.own) c.make_room-2.ensures.same)) (kin_past g.N.Numbered.site g.N.Numbered.run_seed g.N.Staffed.children c.self.inside.journal.past c.make_room.new.self.past (crew_of c.self.inside.crew.recorder c.self.inside.crew.staff) (ap (λ (x : Launches). x.past) c.make_room.ensures.same) c.self.invariant.kin);
  faults = faults_kept g.N.Staffed.children c.make_room.new.self.past (crew_of c.self.inside.crew.recorder c.self.inside.crew.staff) (crew_of c.make_room-2.new.self c.self.inside.crew.staff) refl (ap (λ (r : Recorded). r.watch) c.make_room-2.ensures.same) (faults_past g.N.Staffed.children c.self.inside.journal.past c.make_room.new.self.past (crew_of c.self.inside.crew.recorder c.self.inside.crew.staff) (ap (λ (x : Launches). x.past) c.make_room.ensures.same) c.self.invariant.faults);
}
