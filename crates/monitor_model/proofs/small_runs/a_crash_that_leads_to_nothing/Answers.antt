use Rattle.monitor_model.proofs.SmallRuns.Undone as undone
use Rattle.monitor_model.proofs.small_runs.a_crash_that_leads_to_nothing.Goals as goal

pub returns : goal.returns
returns c = undone.forgotten_crash_fails
