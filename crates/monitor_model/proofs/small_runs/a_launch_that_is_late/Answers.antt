use Rattle.monitor_model.proofs.SmallRuns.Undone as undone
use Rattle.monitor_model.proofs.small_runs.a_launch_that_is_late.Goals as goal

pub returns : goal.returns
returns c = undone.late_launch_fails
