use Rattle.std.proofs.Common.{◌≡◌, subst}
use Rattle.std.specs.Prelude.{IfOk}
use Rattle.site_locks.specs.Heard.{columns_of}
use Rattle.launch_crew.specs.Recorded.{Recorded}
use Rattle.launch_crew.proofs.recorder.Recorder.note_columns.Goals as goal

pub returns-clause-notes : goal.returns-clause-notes
returns-clause-notes g c = subst (λ (x : Recorded). IfOk c.note_columns.result (λ n. n ≡ columns_of x.sat)) c.self.view_is c.note_columns.ensures.notes
