use Rattle.std.proofs.Common.{rules, ◌≡◌, ◌∙◌, ◌≤◌, refl, sym, ap, subst, arith, None, ◌<◌}
use Rattle.monitor_model.specs.Launcher.{begun}
use Rattle.launch_crew.specs.Crews.{RunsAs, StandsAt, child_of, crew_of}
use Rattle.okld_launch.specs.Launchers.{LauncherIs, up_in}
use Rattle.okld_launch.proofs.Begins.{launcher_of}
use Rattle.okld_launch.proofs.Placing.{started_kept, tries_of, stays_tried}
use Rattle.std.proofs.lemmas.Result.{on_ok_weaker, on_err_weaker}
use Rattle.launch_crew.specs.Steps.{Starts, Misses}
use Rattle.okld_launch.proofs.Failing.{told_more, told_failed}
use Rattle.launch_crew.proofs.Children.{more_same}
use Rattle.okld_launch.proofs.Caused.{kept_caused}
use Rattle.launch_crew.proofs.Coming.{none_same}
use Rattle.launch_crew.specs.Listed.{AreCounted}
use Rattle.launch_crew.proofs.Retiring.{counted_of, go_same}
use Rattle.okld_launch.proofs.Children.{stays_same}
use Rattle.okws_plan.specs.declared.configuration.Config.{Config}
use Rattle.okld_launch.proofs.KinChange.{kin_tried, words_at}
use Rattle.monitor_model.specs.Cell.{last_booted}
use Rattle.site_cells.specs.Row.{seen_at}
use Rattle.okld_launch.specs.Kin.{Unstarted}
use Rattle.okld_launch.proofs.Faults.{faults_failed, faults_tried, unlinked_at}
use Rattle.okld_launch.specs.Acts.{StartsAs}
use Rattle.okld_launch.proofs.launcher.Launcher.start.Goals as goal

pub invariant_of-self : goal.invariant_of-self
invariant_of-self g c = record {
  site_is = c.self.invariant.site_is;
  seed_is = c.self.invariant.seed_is;
  few = c.self.invariant.few;
  failed = told_more g.N.Staffed.children c.self.inside.crew.staff.family c.start.new.self.staff.family c.self.inside.journal.past (tries_of c.start.result c.args.service c.args.incarnation (crew_of c.self.inside.crew.recorder c.self.inside.crew.staff) (crew_of c.start.new.self.recorder c.start.new.self.staff) c.start.ensures.ok c.start.ensures.err).told c.self.invariant.failed;
  keeps = started_kept c.start.result g.N.Numbered.site c.args.service c.args.incarnation (launcher_of c.self.inside.journal c.self.inside.crew.recorder c.self.inside.crew.staff c.self.inside.ups.items) (launcher_of c.self.inside.journal c.start.new.self.recorder c.start.new.self.staff c.self.inside.ups.items) c.start.ensures.ok c.start.ensures.err c.self.invariant.keeps refl refl (subst (λ (x : LauncherIs). c.args.incarnation ≤ begun x.journal.past c.args.service) (sym c.self.view_is) c.requires.begun) (ap (λ (x : LauncherIs). up_in x c.args.service) c.self.view_is ∙ c.requires.down)
      (omega (arith, ap (λ (x : LauncherIs). x.crew.room) c.self.view_is, c.requires.room, (tries_of c.start.result c.args.service c.args.incarnation (crew_of c.self.inside.crew.recorder c.self.inside.crew.staff) (crew_of c.start.new.self.recorder c.start.new.self.staff) c.start.ensures.ok c.start.ensures.err).room));
  caused = kept_caused (launcher_of c.self.inside.journal c.self.inside.crew.recorder c.self.inside.crew.staff c.self.inside.ups.items) (launcher_of c.self.inside.journal c.start.new.self.recorder c.start.new.self.staff c.self.inside.ups.items) refl (none_same c.self.inside.crew.recorder.sat c.start.new.self.recorder.sat (tries_of c.start.result c.args.service c.args.incarnation (crew_of c.self.inside.crew.recorder c.self.inside.crew.staff) (crew_of c.start.new.self.recorder c.start.new.self.staff) c.start.ensures.ok c.start.ensures.err).sat_is) refl c.self.invariant.caused;
  attended = (stays_tried c.start.result c.args.service c.args.incarnation (crew_of c.self.inside.crew.recorder c.self.inside.crew.staff) (crew_of c.start.new.self.recorder c.start.new.self.staff) (subst (λ (x : LauncherIs). child_of x.crew c.args.service ≡ None) (sym c.self.view_is) c.requires.child) c.start.ensures.ok c.start.ensures.err).attended c.self.invariant.attended;
  kin = kin_tried c.start.result g.N.Numbered.site g.N.Numbered.run_seed g.N.Staffed.children c.self.inside.journal.past c.args.service c.args.incarnation c.as_slice-words.result.now (crew_of c.self.inside.crew.recorder c.self.inside.crew.staff) (crew_of c.start.new.self.recorder c.start.new.self.staff) g.N.Numbered.launcher c.requires.service c.requires.counted
      (subst (λ (x : LauncherIs). c.args.incarnation ≤ begun x.journal.past c.args.service) (sym c.self.view_is) c.requires.begun)
      (words_at g.N.Numbered.site c.args.service c.as_slice.result.now c.index-as_slice-service.result c.index-as_slice-service.result c.as_slice-words.result.now c.requires.service (c.as_slice.ensures ∙ ap (λ (C : Config). C.services) (c.deref.ensures ∙ c.self.invariant.site_is)) c.index-as_slice-service.is c.as_slice-words.ensures)
      (subst (λ (x : LauncherIs). child_of x.crew c.args.service ≡ None) (sym c.self.view_is) c.requires.child) (subst (λ (x : LauncherIs). Unstarted c.args.service c.args.incarnation g.N.Staffed.children x.crew.family) (sym c.self.view_is) c.requires.unstarted) c.keeps.ensures.own_is
      (subst (λ (x : LauncherIs). last_booted (seen_at x.crew.watch c.args.service) < c.args.incarnation) (sym c.self.view_is) c.requires.later) c.start.ensures.ok c.start.ensures.err c.start.ensures.started c.start.ensures.in_vain c.self.invariant.kin;
  faults = faults_tried g.N.Staffed.children c.self.inside.journal.past c.args.service c.args.incarnation (crew_of c.self.inside.crew.recorder c.self.inside.crew.staff) (crew_of c.start.new.self.recorder c.start.new.self.staff)
      (unlinked_at (crew_of c.self.inside.crew.recorder c.self.inside.crew.staff) c.args.service (subst (λ (x : LauncherIs). child_of x.crew c.args.service ≡ None) (sym c.self.view_is) c.requires.child) c.self.invariant.attended) (tries_of c.start.result c.args.service c.args.incarnation (crew_of c.self.inside.crew.recorder c.self.inside.crew.staff) (crew_of c.start.new.self.recorder c.start.new.self.staff) c.start.ensures.ok c.start.ensures.err) c.self.invariant.faults;
}

pub returns-in_default : goal.returns-in_default
returns-in_default g c = record {
  journal = refl;
  ups = refl;
  columns = refl;
  child = tt;
  cause = search rules;
  fault = search rules;
  told = more_same _ _ refl;
  stays = λ none. stays_same c.args.self.now.crew c.args.self.now.crew refl refl refl;
  added = tt;
  kept = refl;
  behind = go_same c.args.self.now.crew.watch;
  counted = subst (λ (x : LauncherIs). AreCounted x.crew.watch x.crew.own) c.self.view_is (counted_of g.N.Numbered.site g.N.Numbered.launcher c.self.inside.crew.recorder c.keeps.ensures);
  room = omega arith;
}

pub returns : goal.returns
returns g c =
    let first = g.N.Staffed.children in
    let s = c.args.service in
    let k = c.args.incarnation in
    let before = crew_of c.self.inside.crew.recorder c.self.inside.crew.staff in
    let after = crew_of c.start.new.self.recorder c.start.new.self.staff in
    let w = c.self.inside.journal.holder in
    let J = c.self.inside.journal.past in
    let tries = tries_of c.start.result c.args.service c.args.incarnation before after c.start.ensures.ok c.start.ensures.err in
    let none = subst (λ (x : LauncherIs). child_of x.crew s ≡ None) (sym c.self.view_is) c.requires.child in
    subst (λ (x : LauncherIs). StartsAs s k first c.start.result x (launcher_of c.self.inside.journal c.start.new.self.recorder c.start.new.self.staff c.self.inside.ups.items)) c.self.view_is (record {
      journal = refl;
      ups = refl;
      columns = tries.sat_is;
      child = on_ok_weaker c.start.result (λ (h : Starts s k before after). subst (RunsAs k) (sym h.child) (refl, refl)) c.start.ensures.ok;
      cause = c.start.ensures.cause;
      fault = λ failed. record {
        failed = told_failed first before.family after.family w s k J tries.told (c.start.ensures.cause failed) c.self.invariant.failed;
        faults = faults_failed first w s k J before after (unlinked_at before s none c.self.invariant.attended) tries (c.start.ensures.cause failed) c.self.invariant.faults;
      };
      told = tries.told;
      stays = λ idle. stays_tried c.start.result s k before after idle c.start.ensures.ok c.start.ensures.err;
      added = on_ok_weaker c.start.result (λ (h : Starts s k before after). h.own_is) c.start.ensures.ok;
      kept = on_err_weaker c.start.result (λ (h : Misses s k before after). h.own_is) c.start.ensures.err;
      behind = tries.behind;
      counted = counted_of g.N.Numbered.site g.N.Numbered.launcher c.self.inside.crew.recorder c.keeps.ensures;
      room = tries.room;
    })

pub start-requires-clause-stands : goal.start-requires-clause-stands
start-requires-clause-stands g c = subst (λ (x : LauncherIs). StandsAt g.N.Numbered.site c.args.service c.args.incarnation x.crew.sat) (sym c.self.view_is) c.requires.stands
