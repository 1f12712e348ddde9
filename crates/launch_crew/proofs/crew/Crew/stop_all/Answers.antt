use Rattle.std.proofs.Common.{◌≡◌, ◌∙◌, ◌≤◌, List, [], length, true, refl, sym, subst, arith}
use Rattle.monitor_model.specs.declared.record.Own.{Own}
use Rattle.monitor_model.specs.Cell.{incarnation as incarnation_of}
use Rattle.site_cells.specs.Row.{CellsSeen, seen_at}
use Rattle.site_locks.specs.Sat.{Sat}
use Rattle.launch_crew.specs.Crews.{Below, crew_of}
use Rattle.launch_crew.proofs.Children.{emptied_finishes, finishes_on}
use Rattle.launch_crew.proofs.Emptying.{below_emptied, emptied_so_far}
use Rattle.site_cells.proofs.Onlys.{only_else}
use Rattle.okws_outer.specs.Families.{Family}
use Rattle.launch_crew.specs.Ended.{family_ended}
use Rattle.launch_crew.proofs.Ended.{all_idle, attended_emptied, family_tells, idle_so_far, stays_emptied, stays_here, stays_on}
use Rattle.launch_crew.specs.Listed.{CellsGo, EndsPieces}
use Rattle.launch_crew.proofs.Ending.{below_none as none_below, ends_all, ends_next, ends_none}
use Rattle.launch_crew.specs.Finished.{EndsAll}
use Rattle.launch_crew.proofs.Finishing.{ends_all as all_ended, ends_next as ends_one_more, ends_none as none_ended_yet}
use Rattle.launch_crew.proofs.Found.{behind_on}
use Rattle.launch_crew.proofs.Retiring.{go_same}
use Rattle.launch_crew.proofs.crew.Crew.stop_all.Goals as goal

pub loop-service-init : goal.loop-service-init
loop-service-init g c = record {
  columns = refl;
  cells = λ s less. absurd (none_below s less);
  below = λ s k h. h;
  behind = go_same c.args.self.recorder.watch;
  ends = ends_none c.args.self.recorder.watch.cells c.args.self.recorder.own;
  room = omega (arith, c.requires.room);
  children = ([], refl);
  idle = λ s less. absurd (none_below s less);
  attended = λ h. h;
  ended = λ h. stays_here (crew_of c.args.self.recorder c.args.self.staff);
  all = λ h. none_ended_yet g.N.Numbered.site g.N.Numbered.run_seed (crew_of c.args.self.recorder c.args.self.staff);
}

pub loop-service-preserved : goal.loop-service-preserved
loop-service-preserved g c =
    let i = c.loop-service.service in
    let a = crew_of c.loop-service.crew.recorder c.loop-service.crew.staff in
    let b = crew_of c.empty.new.self.recorder c.empty.new.self.staff in
    record {
      columns = c.empty.ensures.empties.sat_is ∙ c.loop-service.invariant.columns;
      cells = emptied_so_far i a b c.empty.ensures.empties c.loop-service.invariant.cells;
      below = λ s k h. below_emptied i s k a b c.empty.ensures.empties (c.loop-service.invariant.below s k h);
      behind = λ s. behind_on (seen_at c.args.self.recorder.watch s) (seen_at a.watch s) (seen_at b.watch s) (c.loop-service.invariant.behind s) (c.empty.ensures.empties.behind s);
      ends = ends_next i a.watch.cells b.watch.cells c.args.self.recorder.own a.own b.own (λ s apart. only_else i s a.watch b.watch apart c.empty.ensures.empties.only) c.empty.ensures.empties.own_is c.loop-service.invariant.ends;
      room = omega (arith, c.empty.ensures.empties.room, c.loop-service.invariant.room);
      children = finishes_on c.args.self.staff.family a.family b.family c.loop-service.invariant.children (emptied_finishes i a b c.empty.ensures.empties);
      idle = idle_so_far i a b c.empty.ensures.empties c.loop-service.invariant.idle;
      attended = λ h. attended_emptied i a b c.empty.ensures.empties (c.loop-service.invariant.attended h);
      ended = λ h. stays_on (crew_of c.args.self.recorder c.args.self.staff) a b (c.loop-service.invariant.ended h) (stays_emptied i a b (c.loop-service.invariant.attended h) c.empty.ensures.empties);
      all = λ h. let at = c.loop-service.invariant.attended h in ends_one_more g.N.Numbered.site g.N.Numbered.run_seed i (crew_of c.args.self.recorder c.args.self.staff) a b c.empty.ensures.empties at (c.empty.ensures.ended at) (c.loop-service.invariant.all h);
    }

pub returns-clause-cells : goal.returns-clause-cells
returns-clause-cells g c = λ s within. subst (λ (w : CellsSeen). incarnation_of (seen_at w s) ≡ 0) (sym c.into_parts-seats.ensures.parts.1)
    (c.loop-service.invariant.cells s (omega (arith, within, c.services-service-end.ensures.is, c.loop-service-test.false)))

pub returns-clause-below : goal.returns-clause-below
returns-clause-below g c = λ s k h.
    let parts = c.into_parts-seats.ensures.parts in
    subst (λ (w : CellsSeen). Below s k c.into_parts-seats.result.0 w) (sym parts.1)
    (subst (λ (a : Sat). Below s k a c.loop-service.crew.recorder.watch) (sym parts.0) (c.loop-service.invariant.below s k h))

pub returns-clause-behind : goal.returns-clause-behind
returns-clause-behind g c = subst (λ (w : CellsSeen). CellsGo c.args.self.recorder.watch w) (sym c.into_parts-seats.ensures.parts.1) c.loop-service.invariant.behind

pub returns-clause-ends : goal.returns-clause-ends
returns-clause-ends g c =
    let parts = c.into_parts-seats.ensures.parts in
    let r = c.loop-service.crew.recorder in
    let all = ends_all c.loop-service.service r.watch.cells c.args.self.recorder.own r.own
    (omega (arith, c.keeps.ensures.cells_are, c.services-service-end.ensures.is, c.loop-service-test.false)) c.loop-service.invariant.ends in
    subst (λ (w : CellsSeen). EndsPieces w.cells c.args.self.recorder.own c.into_parts-seats.result.2) (sym parts.1)
    (subst (λ (xs : List Own). EndsPieces r.watch.cells c.args.self.recorder.own xs) (sym parts.2) all)

pub returns-clause-ended : goal.returns-clause-ended
returns-clause-ended g c = λ h old s k since told.
    let crew = crew_of c.loop-service.crew.recorder c.loop-service.crew.staff in
    let long : length crew.running ≤ c.loop-service.service = omega (arith, c.fits.ensures.running_are, c.services-service-end.ensures.is, c.loop-service-test.false) in
    subst (λ (f : Family). family_ended old f s k ≡ true) (sym c.into_children.ensures)
    (family_tells old crew (all_idle c.loop-service.service crew.running long c.loop-service.invariant.idle) s k ((c.loop-service.invariant.ended h).told old s k since told))

pub returns-clause-all : goal.returns-clause-all
returns-clause-all g c = λ h.
    let first = crew_of c.args.self.recorder c.args.self.staff in
    let crew = crew_of c.loop-service.crew.recorder c.loop-service.crew.staff in
    let C = g.N.Numbered.site in
    let seed = g.N.Numbered.run_seed in
    let long : length crew.running ≤ c.loop-service.service = omega (arith, c.fits.ensures.running_are, c.services-service-end.ensures.is, c.loop-service-test.false) in
    subst (λ (f : Family). EndsAll C seed c.into_parts-seats.result.1 first f) (sym c.into_children.ensures)
    (subst (λ (w : CellsSeen). EndsAll C seed w first crew.family) (sym c.into_parts-seats.ensures.parts.1)
    (all_ended C seed first crew (all_idle c.loop-service.service crew.running long c.loop-service.invariant.idle) (c.loop-service.invariant.attended h) (c.loop-service.invariant.all h)))
