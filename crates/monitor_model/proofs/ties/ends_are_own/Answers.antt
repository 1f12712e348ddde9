use Rattle.monitor_model.proofs.Tied as tied
use Rattle.monitor_model.proofs.ties.ends_are_own.Goals as goal

pub returns : goal.returns
returns c = tied.ends_are_own
