use Rattle.monitor_model.proofs.SmallRuns.Undone as undone
use Rattle.monitor_model.proofs.small_runs.an_accept_of_no_connection.Goals as goal

pub returns : goal.returns
returns c = undone.unasked_accept_fails
