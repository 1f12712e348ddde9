use Rattle.monitor_model.proofs.Sided as sided
use Rattle.monitor_model.proofs.laws.whole_runs_are_not_refused.Goals as goal

pub returns : goal.returns
returns c = sided.whole_runs_are_not_refused
