use Rattle.monitor_model.proofs.SmallRuns.Made as made
use Rattle.monitor_model.proofs.small_runs.a_publication_of_nothing.Goals as goal

pub returns : goal.returns
returns c = made.undeclared_publication_fails
