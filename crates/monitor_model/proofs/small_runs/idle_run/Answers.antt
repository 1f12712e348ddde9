use Rattle.monitor_model.proofs.SmallRuns.Idle as idle
use Rattle.monitor_model.proofs.small_runs.idle_run.Goals as goal

pub returns : goal.returns
returns c = idle.idle_is_legal
