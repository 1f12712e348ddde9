use Rattle.std.proofs.Common.{◌∙◌, refl, sym, ap, subst, arith, ℕ, ◌<◌, get_or-set_same}
use Rattle.std.specs.Prelude.{slice_set}
use Rattle.launch_crew.specs.Crews.{child_of, crew_of}
use Rattle.okld_launch.specs.Launchers.{LauncherIs, MayLaunch}
use Rattle.okld_launch.proofs.Begins.{launcher_of}
use Rattle.okld_launch.proofs.Placing.{cleared, quiet_clears, under_clears}
use Rattle.launch_crew.proofs.Children.{more_emptied}
use Rattle.okld_launch.proofs.Failing.{told_more}
use Rattle.okld_launch.proofs.Caused.{cleared_caused, cleared_none}
use Rattle.site_cells.specs.Row.{CellsSeen}
use Rattle.monitor_model.specs.Launches.{with_retired, with_revokes}
use Rattle.launch_crew.specs.Listed.{of_cells, CellsGo}
use Rattle.launch_crew.proofs.Retiring.{counted_of}
use Rattle.okld_launch.proofs.Children.{stays_emptied, stays_on, stays_same}
use Rattle.launch_crew.proofs.Ended.{attended_emptied, attended_same}
use Rattle.okld_launch.proofs.KinChange.{kin_emptied, named_at}
use Rattle.okld_launch.proofs.Kept.{kin_moved, started_emptied}
use Rattle.okld_launch.proofs.Boots.{cleared_boots}
use Rattle.okld_launch.proofs.Faults.{faults_emptied, faults_kept}
use Rattle.okld_launch.specs.Acts.{Clears}
use Rattle.okld_launch.proofs.launcher.Launcher.clear.Goals as goal

pub invariant_of-self : goal.invariant_of-self
invariant_of-self g c = record {
  site_is = c.self.invariant.site_is;
  seed_is = c.self.invariant.seed_is;
  few = c.self.invariant.few;
  failed = told_more g.N.Staffed.children c.self.inside.crew.staff.family c.empty.new.self.staff.family c.self.inside.journal.past (more_emptied c.args.service (crew_of c.revoke.new.self c.self.inside.crew.staff) (crew_of c.empty.new.self.recorder c.empty.new.self.staff) c.empty.ensures.empties) c.self.invariant.failed;
  keeps = cleared g.N.Numbered.site c.args.service (launcher_of c.self.inside.journal c.self.inside.crew.recorder c.self.inside.crew.staff c.self.inside.ups.items) (launcher_of c.self.inside.journal c.empty.new.self.recorder c.empty.new.self.staff (slice_set c.self.inside.ups.items c.args.service 0)) (crew_of c.down.new.self c.self.inside.crew.staff) (crew_of c.revoke.new.self c.self.inside.crew.staff) c.self.invariant.keeps refl refl
      (record {
        down_hands = record { watch_is = c.down.ensures.cells; running_is = refl; family_is = refl };
        downs = c.down.ensures.downs;
        revoke_hands = record { watch_is = c.revoke.ensures.cells; running_is = refl; family_is = refl };
        revokes = c.revoke.ensures.revokes;
        empties = c.empty.ensures.empties;
      })
      (omega (arith, ap (λ (x : LauncherIs). x.crew.room) c.self.view_is, c.requires.room, c.down.ensures.room, c.revoke.ensures.room, c.empty.ensures.empties.room));
  caused = cleared_caused c.args.service (launcher_of c.self.inside.journal c.self.inside.crew.recorder c.self.inside.crew.staff c.self.inside.ups.items) (launcher_of c.self.inside.journal c.empty.new.self.recorder c.empty.new.self.staff (slice_set c.self.inside.ups.items c.args.service 0)) refl refl
      (cleared_none g.N.Numbered.site c.args.service (crew_of c.self.inside.crew.recorder c.self.inside.crew.staff) (crew_of c.down.new.self c.self.inside.crew.staff) (crew_of c.revoke.new.self c.self.inside.crew.staff) (crew_of c.empty.new.self.recorder c.empty.new.self.staff) c.down.ensures.came
      (record {
        down_hands = record { watch_is = c.down.ensures.cells; running_is = refl; family_is = refl };
        downs = c.down.ensures.downs;
        revoke_hands = record { watch_is = c.revoke.ensures.cells; running_is = refl; family_is = refl };
        revokes = c.revoke.ensures.revokes;
        empties = c.empty.ensures.empties;
      }))
      (subst (λ (x : LauncherIs). MayLaunch c.args.service x) (sym c.self.view_is) c.requires.cause) c.self.invariant.caused;
  attended = attended_emptied c.args.service (crew_of c.revoke.new.self c.self.inside.crew.staff) (crew_of c.empty.new.self.recorder c.empty.new.self.staff) c.empty.ensures.empties (attended_same (crew_of c.self.inside.crew.recorder c.self.inside.crew.staff) (crew_of c.revoke.new.self c.self.inside.crew.staff) (c.revoke.ensures.cells ∙ c.down.ensures.cells) refl c.self.invariant.attended);
  kin = kin_emptied g.N.Numbered.site g.N.Numbered.run_seed g.N.Staffed.children c.self.inside.journal.past c.args.service (crew_of c.revoke.new.self c.self.inside.crew.staff) (crew_of c.empty.new.self.recorder c.empty.new.self.staff) (named_at (crew_of c.revoke.new.self c.self.inside.crew.staff) c.args.service (attended_same (crew_of c.self.inside.crew.recorder c.self.inside.crew.staff) (crew_of c.revoke.new.self c.self.inside.crew.staff) (c.revoke.ensures.cells ∙ c.down.ensures.cells) refl c.self.invariant.attended)) c.empty.ensures.empties (c.empty.ensures.ended (attended_same (crew_of c.self.inside.crew.recorder c.self.inside.crew.staff) (crew_of c.revoke.new.self c.self.inside.crew.staff) (c.revoke.ensures.cells ∙ c.down.ensures.cells) refl c.self.invariant.attended))
      (kin_moved g.N.Numbered.site g.N.Numbered.run_seed g.N.Staffed.children c.self.inside.journal.past (crew_of c.self.inside.crew.recorder c.self.inside.crew.staff) (crew_of c.revoke.new.self c.self.inside.crew.staff) refl refl (c.revoke.ensures.cells ∙ c.down.ensures.cells) (cleared_boots g.N.Numbered.site c.args.service c.self.inside.crew.recorder.own c.down.new.self.own c.revoke.new.self.own c.down.ensures.own c.revoke.ensures.own) c.self.invariant.kin);
  faults = faults_emptied g.N.Staffed.children g.N.Numbered.site g.N.Numbered.run_seed c.self.inside.journal.past (crew_of c.revoke.new.self c.self.inside.crew.staff) (crew_of c.empty.new.self.recorder c.empty.new.self.staff) (child_of (crew_of c.revoke.new.self c.self.inside.crew.staff) c.args.service)
      (c.empty.ensures.ended (attended_same (crew_of c.self.inside.crew.recorder c.self.inside.crew.staff) (crew_of c.revoke.new.self c.self.inside.crew.staff) (c.revoke.ensures.cells ∙ c.down.ensures.cells) refl c.self.invariant.attended)) (faults_kept g.N.Staffed.children c.self.inside.journal.past (crew_of c.self.inside.crew.recorder c.self.inside.crew.staff) (crew_of c.revoke.new.self c.self.inside.crew.staff) refl (c.revoke.ensures.cells ∙ c.down.ensures.cells) c.self.invariant.faults);
}

pub returns : goal.returns
returns g c =
    let C = g.N.Numbered.site in
    let s = c.args.service in
    let before = crew_of c.self.inside.crew.recorder c.self.inside.crew.staff in
    let down = crew_of c.down.new.self c.self.inside.crew.staff in
    let mid = crew_of c.revoke.new.self c.self.inside.crew.staff in
    let after = crew_of c.empty.new.self.recorder c.empty.new.self.staff in
    let cells = after.watch.cells in
    let within = subst (λ (n : ℕ). s < n) (sym c.self.invariant.keeps.ups_are) c.requires.service in
    subst (λ (x : LauncherIs). Clears C s x (launcher_of c.self.inside.journal c.empty.new.self.recorder c.empty.new.self.staff (slice_set c.self.inside.ups.items s 0))) c.self.view_is (record {
      journal = refl;
      quiet = quiet_clears C s before down mid after
          (record {
            down_hands = record { watch_is = c.down.ensures.cells; running_is = refl; family_is = refl };
            downs = c.down.ensures.downs;
            revoke_hands = record { watch_is = c.revoke.ensures.cells; running_is = refl; family_is = refl };
            revokes = c.revoke.ensures.revokes;
            empties = c.empty.ensures.empties;
          });
      down = get_or-set_same c.self.inside.ups.items s 0 0 within;
      under = λ k h. under_clears C s k before down mid after
          (record {
            down_hands = record { watch_is = c.down.ensures.cells; running_is = refl; family_is = refl };
            downs = c.down.ensures.downs;
            revoke_hands = record { watch_is = c.revoke.ensures.cells; running_is = refl; family_is = refl };
            revokes = c.revoke.ensures.revokes;
            empties = c.empty.ensures.empties;
          }) h;
      told = more_emptied s mid after c.empty.ensures.empties;
      started = started_emptied s mid after c.empty.ensures.empties;
      stays = stays_on before mid after (stays_same before mid refl (c.revoke.ensures.cells ∙ c.down.ensures.cells) refl) (stays_emptied s mid after c.empty.ensures.empties);
      own = c.empty.ensures.empties.own_is ∙ ap (with_retired (of_cells cells) s) (c.revoke.ensures.own ∙ ap (with_revokes C s) c.down.ensures.own);
      behind = subst (λ (v : CellsSeen). CellsGo v after.watch) (c.revoke.ensures.cells ∙ c.down.ensures.cells) c.empty.ensures.empties.behind;
      counted = counted_of C g.N.Numbered.launcher c.self.inside.crew.recorder c.keeps.ensures;
      room = omega (arith, c.down.ensures.room, c.revoke.ensures.room, c.empty.ensures.empties.room);
    })
