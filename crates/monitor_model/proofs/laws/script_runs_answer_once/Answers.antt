use Rattle.monitor_model.proofs.Lawful.Replied as replied
use Rattle.monitor_model.proofs.laws.script_runs_answer_once.Goals as goal

pub returns : goal.returns
returns c = replied.script_runs_answer_once
