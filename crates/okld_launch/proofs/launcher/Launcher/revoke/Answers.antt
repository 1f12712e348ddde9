use Rattle.std.proofs.Common.{◌∙◌, refl, ap, arith, subst}
use Rattle.okld_launch.specs.Launchers.{LauncherIs, up_in}
use Rattle.okld_launch.proofs.Begins.{launcher_of}
use Rattle.okld_launch.proofs.Placing.{revoked_kept}
use Rattle.okld_launch.proofs.Caused.{kept_caused}
use Rattle.launch_crew.proofs.Coming.{none_columns}
use Rattle.launch_crew.proofs.Ended.{attended_same}
use Rattle.launch_crew.specs.Crews.{crew_of}
use Rattle.okld_launch.proofs.Kept.{kin_moved}
use Rattle.okld_launch.proofs.Boots.{revoked_boots}
use Rattle.okld_launch.proofs.Faults.{faults_kept}
use Rattle.okld_launch.specs.Acts.{RevokesAll}
use Rattle.okld_launch.proofs.launcher.Launcher.revoke.Goals as goal

pub invariant_of-self : goal.invariant_of-self
invariant_of-self g c = record {
  site_is = c.self.invariant.site_is;
  seed_is = c.self.invariant.seed_is;
  few = c.self.invariant.few;
  failed = c.self.invariant.failed;
  keeps = revoked_kept g.N.Numbered.site c.args.service (launcher_of c.self.inside.journal c.self.inside.crew.recorder c.self.inside.crew.staff c.self.inside.ups.items) (launcher_of c.self.inside.journal c.revoke.new.self c.self.inside.crew.staff c.self.inside.ups.items) c.self.invariant.keeps refl refl
      (record { watch_is = c.revoke.ensures.cells; running_is = refl; family_is = refl }) c.revoke.ensures.revokes (ap (λ (x : LauncherIs). up_in x c.args.service) c.self.view_is ∙ c.requires.down)
      (omega (arith, ap (λ (x : LauncherIs). x.crew.room) c.self.view_is, c.requires.room, c.revoke.ensures.room));
  caused = kept_caused (launcher_of c.self.inside.journal c.self.inside.crew.recorder c.self.inside.crew.staff c.self.inside.ups.items) (launcher_of c.self.inside.journal c.revoke.new.self c.self.inside.crew.staff c.self.inside.ups.items) refl (none_columns c.self.inside.crew.recorder.sat c.revoke.new.self.sat c.revoke.ensures.revokes.thins.only) refl c.self.invariant.caused;
  attended = attended_same (crew_of c.self.inside.crew.recorder c.self.inside.crew.staff) (crew_of c.revoke.new.self c.self.inside.crew.staff) (c.revoke.ensures.cells) refl c.self.invariant.attended;
  kin = kin_moved g.N.Numbered.site g.N.Numbered.run_seed g.N.Staffed.children c.self.inside.journal.past (crew_of c.self.inside.crew.recorder c.self.inside.crew.staff) (crew_of c.revoke.new.self c.self.inside.crew.staff) refl refl c.revoke.ensures.cells (revoked_boots g.N.Numbered.site c.args.service c.self.inside.crew.recorder.own c.revoke.new.self.own c.revoke.ensures.own) c.self.invariant.kin;
  faults = faults_kept g.N.Staffed.children c.self.inside.journal.past (crew_of c.self.inside.crew.recorder c.self.inside.crew.staff) (crew_of c.revoke.new.self c.self.inside.crew.staff) refl c.revoke.ensures.cells c.self.invariant.faults;
}

pub returns : goal.returns
returns g c =
    let new = launcher_of c.self.inside.journal c.revoke.new.self c.self.inside.crew.staff c.self.inside.ups.items in
    subst (λ (x : LauncherIs). RevokesAll g.N.Numbered.site c.args.service x new) c.self.view_is (record {
      journal = refl;
      ups = refl;
      none = c.revoke.ensures.revokes.none;
      cells = c.revoke.ensures.cells;
      running = refl;
      family = refl;
      own = c.revoke.ensures.own;
    })
