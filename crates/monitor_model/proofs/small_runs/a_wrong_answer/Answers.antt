use Rattle.monitor_model.proofs.SmallRuns.Wrong as wrong
use Rattle.monitor_model.proofs.small_runs.a_wrong_answer.Goals as goal

pub returns : goal.returns
returns c = wrong.wrong_answer_fails
