use Rattle.monitor_model.proofs.Lawful.Given as given
use Rattle.monitor_model.proofs.laws.script_runs_take_all.Goals as goal

pub returns : goal.returns
returns c = given.script_runs_take_all
