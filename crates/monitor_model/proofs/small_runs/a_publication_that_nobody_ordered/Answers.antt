use Rattle.monitor_model.proofs.SmallRuns.Made as made
use Rattle.monitor_model.proofs.small_runs.a_publication_that_nobody_ordered.Goals as goal

pub returns : goal.returns
returns c = made.unordered_publication_fails
