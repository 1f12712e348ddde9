use Rattle.monitor_model.proofs.Lawful.Answered as answered
use Rattle.monitor_model.proofs.laws.script_runs_are_answered.Goals as goal

pub returns : goal.returns
returns c = answered.script_runs_are_answered
