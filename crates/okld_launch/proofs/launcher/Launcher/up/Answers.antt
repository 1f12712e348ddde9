use Rattle.std.proofs.Common.{◌≡◌, ◌∙◌, ◌<◌, refl, sym, ap, subst, arith, ℕ, get_or-set_same}
use Rattle.std.specs.Prelude.{slice_set, Result, Ok, Err}
use Rattle.monitor_model.specs.Launcher.{begun}
use Rattle.launch_crew.specs.Crews.{StandsAt, RunsAs, child_of, crew_of}
use Rattle.okld_launch.specs.Launchers.{LauncherIs, up_in}
use Rattle.okld_launch.proofs.Begins.{launcher_of}
use Rattle.okld_launch.proofs.Placing.{upped_kept, looked_kept}
use Rattle.okld_launch.proofs.Caused.{at_most, kept_caused, upped_caused}
use Rattle.launch_crew.proofs.Ended.{attended_same}
use Rattle.okld_launch.proofs.Kept.{kin_moved}
use Rattle.okld_launch.proofs.Boots.{boots_kept, up_boots}
use Rattle.okld_launch.proofs.Faults.{faults_kept}
use Rattle.okld_launch.specs.Acts.{ComesUp}
use Rattle.std.proofs.lemmas.Result.{err_from_is_err_and}
use Rattle.std.specs.declared.alloc.AllocError.{AllocError}
use Rattle.okld_launch.proofs.launcher.Launcher.up.Goals as goal

pub invariant_of-self : goal.invariant_of-self
invariant_of-self g c = record {
  site_is = c.self.invariant.site_is;
  seed_is = c.self.invariant.seed_is;
  few = c.self.invariant.few;
  failed = c.self.invariant.failed;
  keeps = looked_kept g.N.Numbered.site c.args.service (launcher_of c.self.inside.journal c.self.inside.crew.recorder c.self.inside.crew.staff c.self.inside.ups.items) (launcher_of c.self.inside.journal c.up.new.self c.self.inside.crew.staff c.self.inside.ups.items) c.self.invariant.keeps refl refl
      (record { watch_is = c.up.ensures.cells; running_is = refl; family_is = refl }) c.in_err-up.ensures.err (ap (λ (x : LauncherIs). up_in x c.args.service) c.self.view_is ∙ c.requires.down)
      (omega (arith, ap (λ (x : LauncherIs). x.crew.room) c.self.view_is, c.requires.room, c.up.ensures.room));
  caused = kept_caused (launcher_of c.self.inside.journal c.self.inside.crew.recorder c.self.inside.crew.staff c.self.inside.ups.items) (launcher_of c.self.inside.journal c.up.new.self c.self.inside.crew.staff c.self.inside.ups.items) refl c.in_err-up.ensures.none refl c.self.invariant.caused;
  attended = attended_same (crew_of c.self.inside.crew.recorder c.self.inside.crew.staff) (crew_of c.up.new.self c.self.inside.crew.staff) (c.up.ensures.cells) refl c.self.invariant.attended;
  kin = kin_moved g.N.Numbered.site g.N.Numbered.run_seed g.N.Staffed.children c.self.inside.journal.past (crew_of c.self.inside.crew.recorder c.self.inside.crew.staff) (crew_of c.up.new.self c.self.inside.crew.staff) refl refl c.up.ensures.cells (boots_kept c.self.inside.crew.recorder.own c.up.new.self.own c.in_err-up.ensures.kept) c.self.invariant.kin;
  faults = faults_kept g.N.Staffed.children c.self.inside.journal.past (crew_of c.self.inside.crew.recorder c.self.inside.crew.staff) (crew_of c.up.new.self c.self.inside.crew.staff) refl c.up.ensures.cells c.self.invariant.faults;
}

pub invariant_of-self-2 : goal.invariant_of-self-2
invariant_of-self-2 g c = record {
  site_is = c.self.invariant.site_is;
  seed_is = c.self.invariant.seed_is;
  few = c.self.invariant.few;
  failed = c.self.invariant.failed;
  keeps = upped_kept g.N.Numbered.site c.args.service c.args.incarnation (launcher_of c.self.inside.journal c.self.inside.crew.recorder c.self.inside.crew.staff c.self.inside.ups.items) (launcher_of c.self.inside.journal c.up.new.self c.self.inside.crew.staff (slice_set c.self.inside.ups.items c.args.service c.args.incarnation)) c.self.invariant.keeps refl refl c.requires.service
      (record { watch_is = c.up.ensures.cells; running_is = refl; family_is = refl }) c.in_ok-up.ensures.ok c.requires.counted (at_most c.args.incarnation (begun c.self.inside.journal.past c.args.service) (subst (λ (x : LauncherIs). c.args.incarnation ≡ begun x.journal.past c.args.service) (sym c.self.view_is) c.requires.begun))
      (subst (λ (x : LauncherIs). StandsAt g.N.Numbered.site c.args.service c.args.incarnation x.crew.sat) (sym c.self.view_is) c.requires.stands)
      (subst (λ (x : LauncherIs). RunsAs c.args.incarnation (child_of x.crew c.args.service)) (sym c.self.view_is) c.requires.child)
      (omega (arith, ap (λ (x : LauncherIs). x.crew.room) c.self.view_is, c.requires.room, c.up.ensures.room));
  caused = upped_caused c.args.service c.args.incarnation (launcher_of c.self.inside.journal c.self.inside.crew.recorder c.self.inside.crew.staff c.self.inside.ups.items) (launcher_of c.self.inside.journal c.up.new.self c.self.inside.crew.staff (slice_set c.self.inside.ups.items c.args.service c.args.incarnation)) refl refl (subst (λ n. c.args.service < n) (sym c.self.invariant.keeps.ups_are) c.requires.service) c.in_ok-up.ensures.came (subst (λ (x : LauncherIs). c.args.incarnation ≡ begun x.journal.past c.args.service) (sym c.self.view_is) c.requires.begun) c.self.invariant.caused;
  attended = attended_same (crew_of c.self.inside.crew.recorder c.self.inside.crew.staff) (crew_of c.up.new.self c.self.inside.crew.staff) (c.up.ensures.cells) refl c.self.invariant.attended;
  kin = kin_moved g.N.Numbered.site g.N.Numbered.run_seed g.N.Staffed.children c.self.inside.journal.past (crew_of c.self.inside.crew.recorder c.self.inside.crew.staff) (crew_of c.up.new.self c.self.inside.crew.staff) refl refl c.up.ensures.cells (up_boots c.args.service c.args.incarnation c.self.inside.crew.recorder.own c.up.new.self.own c.in_ok-up.ensures.added) c.self.invariant.kin;
  faults = faults_kept g.N.Staffed.children c.self.inside.journal.past (crew_of c.self.inside.crew.recorder c.self.inside.crew.staff) (crew_of c.up.new.self c.self.inside.crew.staff) refl c.up.ensures.cells c.self.invariant.faults;
}

pub returns-in_err-up : goal.returns-in_err-up
returns-in_err-up g c =
    let s = c.args.service in
    let k = c.args.incarnation in
    let new = launcher_of c.self.inside.journal c.up.new.self c.self.inside.crew.staff c.self.inside.ups.items in
    let failed = err_from_is_err_and c.from_residual.result c.from_residual.ensures.1 in
    subst (λ (r : Result (Unit {0}) AllocError). ComesUp s k r c.args.self.now new) (sym failed.1)
    (subst (λ (x : LauncherIs). ComesUp {E = AllocError} s k (Err failed.0) x new) c.self.view_is (record {
      journal = refl;
      family = refl;
      ok = tt;
      err = ap (λ (x : LauncherIs). up_in x s) c.self.view_is ∙ c.requires.down;
      cells = c.up.ensures.cells;
      running = refl;
      added = tt;
      kept = c.in_err-up.ensures.kept;
      room = c.up.ensures.room;
    }))

pub returns : goal.returns
returns g c =
    let s = c.args.service in
    let k = c.args.incarnation in
    let within = subst (λ (n : ℕ). s < n) (sym c.self.invariant.keeps.ups_are) c.requires.service in
    subst (λ (x : LauncherIs). ComesUp {E = AllocError} s k (Ok tt) x (launcher_of c.self.inside.journal c.up.new.self c.self.inside.crew.staff (slice_set c.self.inside.ups.items s k))) c.self.view_is (record {
      journal = refl;
      family = refl;
      ok = get_or-set_same c.self.inside.ups.items s k 0 within;
      err = tt;
      cells = c.up.ensures.cells;
      running = refl;
      added = c.in_ok-up.ensures.added;
      kept = tt;
      room = c.up.ensures.room;
    })
