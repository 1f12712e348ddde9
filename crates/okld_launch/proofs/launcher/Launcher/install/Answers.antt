use Rattle.std.proofs.Common.{◌∙◌, ◌≤◌, refl, sym, ap, subst, arith}
use Rattle.monitor_model.specs.Launcher.{begun}
use Rattle.okld_launch.specs.Launchers.{LauncherIs, up_in}
use Rattle.okld_launch.proofs.Begins.{launcher_of}
use Rattle.okld_launch.proofs.Placing.{installed_kept}
use Rattle.okld_launch.proofs.Caused.{kept_caused}
use Rattle.launch_crew.proofs.Coming.{none_columns}
use Rattle.okws_plan.specs.Configuration.{cols}
use Rattle.launch_crew.proofs.Ended.{attended_same}
use Rattle.launch_crew.specs.Crews.{NoneStands, crew_of}
use Rattle.okld_launch.proofs.Kept.{kin_moved}
use Rattle.okld_launch.proofs.Boots.{installed_boots}
use Rattle.okld_launch.proofs.Faults.{faults_kept}
use Rattle.okld_launch.specs.Acts.{InstallsAll}
use Rattle.okld_launch.proofs.launcher.Launcher.install.Goals as goal

pub invariant_of-self : goal.invariant_of-self
invariant_of-self g c = record {
  site_is = c.self.invariant.site_is;
  seed_is = c.self.invariant.seed_is;
  few = c.self.invariant.few;
  failed = c.self.invariant.failed;
  keeps = installed_kept g.N.Numbered.site c.args.service c.args.incarnation (launcher_of c.self.inside.journal c.self.inside.crew.recorder c.self.inside.crew.staff c.self.inside.ups.items) (launcher_of c.self.inside.journal c.install.new.self c.self.inside.crew.staff c.self.inside.ups.items) c.self.invariant.keeps refl refl
      (record { watch_is = c.install.ensures.cells; running_is = refl; family_is = refl }) c.install.ensures.installs (subst (λ (x : LauncherIs). c.args.incarnation ≤ begun x.journal.past c.args.service) (sym c.self.view_is) c.requires.begun) (ap (λ (x : LauncherIs). up_in x c.args.service) c.self.view_is ∙ c.requires.down)
      (omega (arith, ap (λ (x : LauncherIs). x.crew.room) c.self.view_is, c.requires.room, c.install.ensures.room));
  caused = kept_caused (launcher_of c.self.inside.journal c.self.inside.crew.recorder c.self.inside.crew.staff c.self.inside.ups.items) (launcher_of c.self.inside.journal c.install.new.self c.self.inside.crew.staff c.self.inside.ups.items) refl (none_columns c.self.inside.crew.recorder.sat c.install.new.self.sat c.install.ensures.installs.only) refl c.self.invariant.caused;
  attended = attended_same (crew_of c.self.inside.crew.recorder c.self.inside.crew.staff) (crew_of c.install.new.self c.self.inside.crew.staff) (c.install.ensures.cells) refl c.self.invariant.attended;
  kin = kin_moved g.N.Numbered.site g.N.Numbered.run_seed g.N.Staffed.children c.self.inside.journal.past (crew_of c.self.inside.crew.recorder c.self.inside.crew.staff) (crew_of c.install.new.self c.self.inside.crew.staff) refl refl c.install.ensures.cells (installed_boots c.install.result g.N.Numbered.run_seed c.args.service c.args.incarnation (cols g.N.Numbered.site c.args.service) c.self.inside.crew.recorder.own c.install.new.self.own c.install.ensures.added c.install.ensures.front) c.self.invariant.kin;
  faults = faults_kept g.N.Staffed.children c.self.inside.journal.past (crew_of c.self.inside.crew.recorder c.self.inside.crew.staff) (crew_of c.install.new.self c.self.inside.crew.staff) refl c.install.ensures.cells c.self.invariant.faults;
}

pub returns : goal.returns
returns g c =
    let new = launcher_of c.self.inside.journal c.install.new.self c.self.inside.crew.staff c.self.inside.ups.items in
    subst (λ (x : LauncherIs). InstallsAll g.N.Numbered.site g.N.Numbered.run_seed c.args.service c.args.incarnation c.install.result x new) c.self.view_is (record {
      journal = refl;
      ups = refl;
      hands = record { watch_is = c.install.ensures.cells; running_is = refl; family_is = refl };
      stands = c.install.ensures.ok;
      added = c.install.ensures.added;
      front = c.install.ensures.front;
      room = c.install.ensures.room;
    })

pub install-requires-clause-vacant : goal.install-requires-clause-vacant
install-requires-clause-vacant g c = subst (λ (x : LauncherIs). NoneStands g.N.Numbered.site c.args.service x.crew.sat) (sym c.self.view_is) c.requires.vacant
