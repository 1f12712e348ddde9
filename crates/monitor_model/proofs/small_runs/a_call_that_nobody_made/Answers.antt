use Rattle.monitor_model.proofs.SmallRuns.Made as made
use Rattle.monitor_model.proofs.small_runs.a_call_that_nobody_made.Goals as goal

pub returns : goal.returns
returns c = made.invented_call_fails
