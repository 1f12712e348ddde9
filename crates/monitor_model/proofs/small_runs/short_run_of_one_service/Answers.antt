use Rattle.monitor_model.proofs.SmallRuns.Short as short
use Rattle.monitor_model.proofs.small_runs.short_run_of_one_service.Goals as goal

pub returns : goal.returns
returns c = short.short_run_is_legal
