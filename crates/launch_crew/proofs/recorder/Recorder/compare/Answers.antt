use Rattle.std.proofs.Common.{◌≤◌, subst}
use Rattle.std.specs.Prelude.{slice_index}
use Rattle.launch_crew.specs.Recorded.{Recorded}
use Rattle.launch_crew.proofs.recorder.Recorder.compare.Goals as goal

pub returns-clause-least : goal.returns-clause-least
returns-clause-least g c s = subst (λ (r : Recorded). slice_index c.args.other.now.board s ≤ slice_index r.sat.board s) c.self.view_is (c.compare.ensures.least s)
