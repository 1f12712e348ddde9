use Rattle.monitor_model.proofs.SmallRuns.Missed as missed
use Rattle.monitor_model.proofs.small_runs.a_private_copy.Goals as goal

pub returns : goal.returns
returns c = missed.private_copy_is_refused
