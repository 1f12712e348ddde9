use Rattle.std.proofs.Common.{◌≡◌, ℕ, ◌<◌, ◌≤◌, ◌+◌, List, None, length}
use Rattle.okws_outer.specs.declared.children.ChildEnd.{ChildEnd}
use Rattle.monitor_model.specs.Cell.{incarnation as incarnation_of}
use Rattle.site_cells.specs.Row.{seen_at}
use Rattle.launch_crew.specs.Crews.{Below, child_of, crew_of}
use Rattle.launch_crew.specs.Ended.{Attended, StaysEnded}
use Rattle.launch_crew.specs.Listed.{CellsGo}
use Rattle.launch_crew.specs.Told.{Finishes}
use Rattle.launch_crew.proofs.Ending.{EndsBelow}
use Rattle.launch_crew.proofs.Finishing.{EndsSome}
use Rattle.launch_crew.proofs.crew.Crew.stop_all.Given as goal

abbrev pub invariant-loop-service : goal.invariant-loop-service
invariant-loop-service g l = record {
  columns : l.crew.recorder.sat ≡ l.fn.self.recorder.sat;
  cells : (s : ℕ) → s < l.service → incarnation_of (seen_at l.crew.recorder.watch s) ≡ 0;
  below : (s k : ℕ) → Below s k l.fn.self.recorder.sat l.fn.self.recorder.watch → Below s k l.crew.recorder.sat l.crew.recorder.watch;
  behind : CellsGo l.fn.self.recorder.watch l.crew.recorder.watch;
  ends : EndsBelow l.service l.crew.recorder.watch.cells l.fn.self.recorder.own l.crew.recorder.own;
  room : length g.N.Numbered.site.services ≤ l.crew.recorder.room + l.service;
  children : (ends : List ChildEnd) × Finishes ends l.fn.self.staff.family l.crew.staff.family;
  idle : (s : ℕ) → s < l.service → child_of (crew_of l.crew.recorder l.crew.staff) s ≡ None;
  attended : Attended (crew_of l.fn.self.recorder l.fn.self.staff) → Attended (crew_of l.crew.recorder l.crew.staff);
  ended : Attended (crew_of l.fn.self.recorder l.fn.self.staff) → StaysEnded (crew_of l.fn.self.recorder l.fn.self.staff) (crew_of l.crew.recorder l.crew.staff);
  all : Attended (crew_of l.fn.self.recorder l.fn.self.staff) → EndsSome g.N.Numbered.site g.N.Numbered.run_seed (crew_of l.fn.self.recorder l.fn.self.staff) (crew_of l.crew.recorder l.crew.staff);
}
