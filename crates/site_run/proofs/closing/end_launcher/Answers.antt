use Rattle.std.proofs.Common.{◌≡◌, ◌∙◌, ℕ, Bool, true, List, [], length, refl, sym, ap, subst}
use Rattle.std.specs.Prelude.{slice_index}
use Rattle.site_locks.specs.Sat.{Sat}
use Rattle.okws_base.specs.Turns.{GrowsBy, of}
use Rattle.named_columns.specs.Launched.{by_entry}
use Rattle.turn_lock.specs.Seats.{AllClosed}
use Rattle.launch_crew.specs.Coming.{came_up}
use Rattle.launch_crew.specs.Crews.{crew_of}
use Rattle.okld_launch.specs.Causing.{AllCaused}
use Rattle.launch_turns.specs.Deeds.{by_deed, ended_in, entries, up_in}
use Rattle.launch_turns.specs.declared.deed.Deed.{Deed}
use Rattle.launch_crew.proofs.Children.{more_finished}
use Rattle.okld_launch.proofs.Failing.{told_more}
use Rattle.okld_launch.proofs.KinChange.{kin_ended}
use Rattle.okld_launch.proofs.Faults.{faults_ended}
use Rattle.okld_launch.specs.Pieces.{IsWhole}
use Rattle.launch_crew.proofs.Retiring.{counted_of}
use Rattle.okld_launch.proofs.Pieces.{whole_goes}
use Rattle.site_run.specs.Pieced.{ended_crew}
use Rattle.site_run.proofs.Pieced.{ending_same}
use Rattle.site_run.proofs.Taken.{came_met, own_met}
use Rattle.site_run.proofs.closing.end_launcher.Goals as goal

pub returns-clause-entries : goal.returns-clause-entries
returns-clause-entries g c = c.close-past.ensures.past ∙ ap entries (sym c.close-past.ensures.deeds)

pub returns-clause-none : goal.returns-clause-none
returns-clause-none g c = λ k l. subst (λ (J : List Deed). of by_deed k J ≡ []) (sym c.close-past.ensures.deeds) (c.close-launcher.ensures.none k l)

pub returns-clause-grown : goal.returns-clause-grown
returns-clause-grown g c = subst (λ (J : List Deed). AllClosed by_deed c.args.turns.items J) (sym c.close-past.ensures.deeds) c.close-launcher.ensures.told

pub returns-clause-own : goal.returns-clause-own
returns-clause-own g c =
    let n = g.N.Numbered.launcher in
    let stopped = c.stop_all-stopped in
    let a = stopped.result.seats in
    let b = c.meet_okd.new.self in
    own_met n a b c.meet_okd.ensures.only (subst (λ k. GrowsBy by_entry k a.okd b.okd) stopped.ensures.numbers.0 c.meet_okd.ensures.grows) stopped.result.cells stopped.result.own stopped.ensures.own

pub returns-clause-numbers : goal.returns-clause-numbers
returns-clause-numbers g c = (ap (λ (x : Sat). x.number) c.meet_okd.ensures.only ∙ c.stop_all-stopped.ensures.numbers.0, c.stop_all-stopped.ensures.numbers.1)

pub returns-clause-shown : goal.returns-clause-shown
returns-clause-shown g c = λ s l.
    ap (λ (x : Sat). slice_index x.board s) (c.meet_okd.ensures.only) ∙ (ap (λ (x : Sat). slice_index x.board s) c.stop_all-stopped.ensures.columns ∙ c.close-past.ensures.shown s l)

pub returns-clause-failed : goal.returns-clause-failed
returns-clause-failed g c =
    let ends = c.stop_all-stopped.ensures.children in
    let before = c.close-past.result.1.staff.family in
    let after = g.F.Children.family c.stop_all-stopped.result.children in
    told_more g.N.Staffed.children before after c.close-past.result.0 (more_finished ends.0 before after ends.1) c.close-past.ensures.failed

pub returns-clause-caused : goal.returns-clause-caused
returns-clause-caused g c =
    let n = g.N.Numbered.launcher in
    let stopped = c.stop_all-stopped in
    let a = stopped.result.seats in
    let b = c.meet_okd.new.self in
    let J = c.close-past.result.0 in
    let same = came_met n a b c.meet_okd.ensures.only (subst (λ k. GrowsBy by_entry k a.okd b.okd) stopped.ensures.numbers.0 c.meet_okd.ensures.grows) stopped.ensures.numbers.0 in
    subst (λ (ups : ℕ → ℕ → Bool). AllCaused ups J J) (sym same) (subst (λ (x : Sat). AllCaused (came_up x) J J) (sym stopped.ensures.columns) c.close-past.ensures.caused)

pub returns-clause-ended : goal.returns-clause-ended
returns-clause-ended g c = λ s k over.
    let told = c.close-past.ensures.ended in
    c.stop_all-stopped.ensures.ended c.close-past.ensures.attended (length g.N.Staffed.children.finished) s k told.0
    (told.1 s k (subst (λ (deeds : List Deed). ended_in deeds s k ≡ true) c.close-past.ensures.deeds over))

pub returns-clause-whole : goal.returns-clause-whole
returns-clause-whole g c =
    let r = c.close-past.result.1.recorder in
    let stopped = c.stop_all-stopped in
    let counted = counted_of g.N.Numbered.site g.N.Numbered.launcher r c.keeps.ensures in
    let up = up_in c.close-past.result.2.past in
    let C = g.N.Numbered.site in
    let seed = g.N.Numbered.run_seed in
    let whole : IsWhole C seed up c.close-past.result.0 r.watch.cells r.own
    = subst (λ (deeds : List Deed). IsWhole C seed (up_in deeds) c.close-past.result.0 r.watch.cells r.own) (sym c.close-past.ensures.deeds) c.close-past.ensures.whole in
    record {
      before = r.own;
      whole = whole_goes C seed up c.close-past.result.0 r.watch.cells stopped.result.cells.cells r.own stopped.ensures.behind counted whole;
      ends = stopped.ensures.ends;
    }

pub returns-clause-kin : goal.returns-clause-kin
returns-clause-kin g c =
    let r = c.close-past.result.1.recorder in
    let stopped = c.stop_all-stopped in
    let family = g.F.Children.family stopped.result.children in
    kin_ended g.N.Numbered.site g.N.Numbered.run_seed g.N.Staffed.children c.close-past.result.0 (crew_of r c.close-past.result.1.staff) (ended_crew c.meet_okd.new.self stopped.result.cells family stopped.result.own) stopped.ensures.behind
    (stopped.ensures.all c.close-past.ensures.attended) (λ s. refl) (ending_same stopped.result.cells.cells r.own stopped.result.own stopped.ensures.ends) c.close-past.ensures.kin

pub returns-clause-faults : goal.returns-clause-faults
returns-clause-faults g c =
    let r = c.close-past.result.1.recorder in
    let stopped = c.stop_all-stopped in
    let family = g.F.Children.family stopped.result.children in
    faults_ended g.N.Staffed.children g.N.Numbered.site g.N.Numbered.run_seed c.close-past.result.0 (crew_of r c.close-past.result.1.staff) (ended_crew c.meet_okd.new.self stopped.result.cells family stopped.result.own)
    (stopped.ensures.all c.close-past.ensures.attended) c.close-past.ensures.faults

pub returns-clause-empty : goal.returns-clause-empty
returns-clause-empty g c = λ s within. ((c.stop_all-stopped.ensures.all c.close-past.ensures.attended).unlinked s, c.stop_all-stopped.ensures.cells s within)
