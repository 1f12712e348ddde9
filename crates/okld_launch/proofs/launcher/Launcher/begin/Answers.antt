use Rattle.std.proofs.Common.{refl, sym, ap, subst, arith}
use Rattle.monitor_model.specs.Launcher.{begun}
use Rattle.launch_crew.specs.Crews.{Under, crew_of}
use Rattle.launch_crew.specs.Recorded.{Recorded}
use Rattle.okld_launch.proofs.Begins.{launcher_of, begun_kept, under_next}
use Rattle.okld_launch.proofs.Failing.{told_entered}
use Rattle.okws_plan.specs.declared.event.LauncherEvent.TheVariants as event
use Rattle.launch_crew.specs.Coming.{came_up}
use Rattle.okld_launch.specs.Launchers.{LauncherIs, MayLaunch}
use Rattle.okld_launch.proofs.Caused.{begun_caused, begun_fresh}
use Rattle.launch_crew.proofs.Ended.{attended_same}
use Rattle.okld_launch.proofs.Kept.{kin_begun, kin_moved, unstarted_begun}
use Rattle.okld_launch.proofs.Boots.{boots_kept}
use Rattle.okld_launch.proofs.Faults.{faults_entered, faults_kept}
use Rattle.okld_launch.specs.Acts.{Begins}
use Rattle.okld_launch.proofs.launcher.Launcher.begin.Goals as goal

pub invariant_of-self : goal.invariant_of-self
invariant_of-self g c = record {
  site_is = c.self.invariant.site_is;
  seed_is = c.self.invariant.seed_is;
  few = c.self.invariant.few;
  failed = told_entered g.N.Staffed.children c.self.inside.crew.staff.family (event.Begun c.args.service c.begin-incarnation.result) c.self.inside.journal c.begin-incarnation.new.self refl c.begin-incarnation.ensures.entered c.self.invariant.failed;
  keeps = begun_kept g.N.Numbered.site c.args.service c.begin-incarnation.result (launcher_of c.self.inside.journal c.self.inside.crew.recorder c.self.inside.crew.staff c.self.inside.ups.items) (launcher_of c.begin-incarnation.new.self c.raise.new.self c.self.inside.crew.staff c.self.inside.ups.items)
      (λ i. record { journal = c.begin-incarnation.ensures.entered i; crew = crew_of (c.raise.ensures.is i) c.self.inside.crew.staff; ups = c.self.inside.ups.items }) c.begin-incarnation.ensures.next c.raise.ensures.shown c.self.invariant.keeps;
  caused = begun_caused c.args.service c.begin-incarnation.result (launcher_of c.self.inside.journal c.self.inside.crew.recorder c.self.inside.crew.staff c.self.inside.ups.items) (launcher_of c.begin-incarnation.new.self c.raise.new.self c.self.inside.crew.staff c.self.inside.ups.items) c.begin-incarnation.ensures.entered (λ s k. ap (λ (r : Recorded). came_up r.sat s k) c.raise.ensures.is) refl c.begin-incarnation.ensures.next (subst (λ (x : LauncherIs). MayLaunch c.args.service x) (sym c.self.view_is) c.requires.cause) c.self.invariant.caused;
  attended = attended_same (crew_of c.self.inside.crew.recorder c.self.inside.crew.staff) (crew_of c.raise.new.self c.self.inside.crew.staff) (ap (λ (r : Recorded). r.watch) c.raise.ensures.is) refl c.self.invariant.attended;
  kin = kin_moved g.N.Numbered.site g.N.Numbered.run_seed g.N.Staffed.children c.begin-incarnation.new.self.past (crew_of c.self.inside.crew.recorder c.self.inside.crew.staff) (crew_of c.raise.new.self c.self.inside.crew.staff) refl refl (ap (λ (r : Recorded). r.watch) c.raise.ensures.is) (boots_kept c.self.inside.crew.recorder.own c.raise.new.self.own (ap (λ (r : Recorded). r.own) c.raise.ensures.is)) (kin_begun g.N.Numbered.site g.N.Numbered.run_seed g.N.Staffed.children c.args.service c.begin-incarnation.result c.self.inside.journal c.begin-incarnation.new.self (crew_of c.self.inside.crew.recorder c.self.inside.crew.staff) c.begin-incarnation.ensures.entered c.self.invariant.kin);
  faults = faults_kept g.N.Staffed.children c.begin-incarnation.new.self.past (crew_of c.self.inside.crew.recorder c.self.inside.crew.staff) (crew_of c.raise.new.self c.self.inside.crew.staff) refl (ap (λ (r : Recorded). r.watch) c.raise.ensures.is) (faults_entered g.N.Staffed.children (event.Begun c.args.service c.begin-incarnation.result) c.self.inside.journal c.begin-incarnation.new.self (crew_of c.self.inside.crew.recorder c.self.inside.crew.staff) refl c.begin-incarnation.ensures.entered c.self.invariant.faults);
}

pub raise-requires-clause-above : goal.raise-requires-clause-above
raise-requires-clause-above g c = omega (arith, (c.self.invariant.keeps.each c.args.service).below.board, c.begin-incarnation.ensures.next)

pub returns : goal.returns
returns g c =
    let new = launcher_of c.begin-incarnation.new.self c.raise.new.self c.self.inside.crew.staff c.self.inside.ups.items in
    subst (λ (x : LauncherIs). Begins c.args.service c.begin-incarnation.result g.N.Staffed.children x new) c.self.view_is (record {
      is = c.begin-incarnation.ensures.next;
      journal = c.begin-incarnation.ensures.entered;
      under = subst (λ (r : Recorded). Under c.args.service c.begin-incarnation.result (crew_of r c.self.inside.crew.staff)) (sym c.raise.ensures.is)
          (under_next c.args.service (begun c.self.inside.journal.past c.args.service) c.begin-incarnation.result (crew_of c.self.inside.crew.recorder c.self.inside.crew.staff) c.begin-incarnation.ensures.next (c.self.invariant.keeps.each c.args.service).below);
      fresh = begun_fresh c.args.service c.begin-incarnation.result (launcher_of c.self.inside.journal c.self.inside.crew.recorder c.self.inside.crew.staff c.self.inside.ups.items) (launcher_of c.begin-incarnation.new.self c.raise.new.self c.self.inside.crew.staff c.self.inside.ups.items) c.begin-incarnation.ensures.entered
          (λ s k. ap (λ (r : Recorded). came_up r.sat s k) c.raise.ensures.is) c.begin-incarnation.ensures.next c.self.invariant.caused;
      family = refl;
      unstarted = unstarted_begun g.N.Numbered.site g.N.Numbered.run_seed g.N.Staffed.children c.args.service c.begin-incarnation.result c.self.inside.journal (crew_of c.self.inside.crew.recorder c.self.inside.crew.staff) c.begin-incarnation.ensures.next c.self.invariant.kin;
      list = (ap (λ (r : Recorded). r.own) c.raise.ensures.is, ap (λ (r : Recorded). r.watch) c.raise.ensures.is);
      running = refl;
      room = ap (λ (r : Recorded). r.room) c.raise.ensures.is;
    })
