use Rattle.monitor_model.proofs.SmallRuns.Missed as missed
use Rattle.monitor_model.proofs.small_runs.a_miss_that_is_not_true.Goals as goal

pub returns : goal.returns
returns c = missed.untrue_miss_fails
