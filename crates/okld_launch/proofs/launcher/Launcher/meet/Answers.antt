use Rattle.std.proofs.Common.{refl, subst}
use Rattle.launch_crew.specs.Crews.{crew_of}
use Rattle.okld_launch.proofs.Begins.{launcher_of, same_crew, met}
use Rattle.okld_launch.proofs.Caused.{kept_caused}
use Rattle.launch_crew.proofs.Coming.{none_same}
use Rattle.launch_crew.specs.Listed.{AreCounted, CellsGo}
use Rattle.launch_crew.proofs.Retiring.{counted_of}
use Rattle.okld_launch.specs.Launchers.{LauncherIs}
use Rattle.okld_launch.specs.Children.{StaysAttended}
use Rattle.okld_launch.proofs.Children.{stays_met}
use Rattle.launch_crew.proofs.Ended.{attended_met}
use Rattle.okld_launch.proofs.Kin.{kin_stays}
use Rattle.okld_launch.proofs.Boots.{boots_kept}
use Rattle.okld_launch.proofs.Faults.{faults_seen}
use Rattle.okld_launch.proofs.launcher.Launcher.meet.Goals as goal

pub invariant_of-self : goal.invariant_of-self
invariant_of-self g c = record {
  site_is = c.self.invariant.site_is;
  seed_is = c.self.invariant.seed_is;
  few = c.self.invariant.few;
  failed = c.self.invariant.failed;
  keeps = same_crew g.N.Numbered.site (launcher_of c.self.inside.journal c.self.inside.crew.recorder c.self.inside.crew.staff c.self.inside.ups.items) (crew_of c.meet.new.self c.self.inside.crew.staff) (met c.args.note.service (crew_of c.self.inside.crew.recorder c.self.inside.crew.staff) (crew_of c.meet.new.self c.self.inside.crew.staff) c.meet.ensures.columns c.meet.ensures.only c.meet.ensures.last refl c.meet.ensures.room) c.self.invariant.keeps;
  caused = kept_caused (launcher_of c.self.inside.journal c.self.inside.crew.recorder c.self.inside.crew.staff c.self.inside.ups.items) (launcher_of c.self.inside.journal c.meet.new.self c.self.inside.crew.staff c.self.inside.ups.items) refl (none_same c.self.inside.crew.recorder.sat c.meet.new.self.sat c.meet.ensures.columns) refl c.self.invariant.caused;
  attended = attended_met c.args.note.service (crew_of c.self.inside.crew.recorder c.self.inside.crew.staff) (crew_of c.meet.new.self c.self.inside.crew.staff) c.meet.ensures.only c.meet.ensures.link c.meet.ensures.last refl c.self.invariant.attended;
  kin = kin_stays g.N.Numbered.site g.N.Numbered.run_seed g.N.Staffed.children c.self.inside.journal.past (crew_of c.self.inside.crew.recorder c.self.inside.crew.staff) (crew_of c.meet.new.self c.self.inside.crew.staff) refl refl c.meet.ensures.behind (boots_kept c.self.inside.crew.recorder.own c.meet.new.self.own c.meet.ensures.own) c.self.invariant.kin;
  faults = faults_seen g.N.Staffed.children c.self.inside.journal.past (crew_of c.self.inside.crew.recorder c.self.inside.crew.staff) (crew_of c.meet.new.self c.self.inside.crew.staff) refl c.meet.ensures.out c.self.invariant.faults;
}

pub returns-clause-counted : goal.returns-clause-counted
returns-clause-counted g c = subst (λ (x : LauncherIs). AreCounted x.crew.watch x.crew.own) c.self.view_is (counted_of g.N.Numbered.site g.N.Numbered.launcher c.self.inside.crew.recorder c.keeps.ensures)

pub returns-clause-stays : goal.returns-clause-stays
returns-clause-stays g c = subst (λ (x : LauncherIs). StaysAttended x.crew (crew_of c.meet.new.self c.self.inside.crew.staff)) c.self.view_is
    (stays_met c.args.note.service (crew_of c.self.inside.crew.recorder c.self.inside.crew.staff) (crew_of c.meet.new.self c.self.inside.crew.staff) refl refl c.meet.ensures.only c.meet.ensures.link c.meet.ensures.last)

pub returns-clause-behind : goal.returns-clause-behind
returns-clause-behind g c = subst (λ (x : LauncherIs). CellsGo x.crew.watch c.meet.new.self.watch) c.self.view_is c.meet.ensures.behind
