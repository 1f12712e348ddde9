use Rattle.monitor_model.proofs.SmallRuns.Undone as undone
use Rattle.monitor_model.proofs.small_runs.a_launch_that_skips_a_column.Goals as goal

pub returns : goal.returns
returns c = undone.skipped_column_fails
