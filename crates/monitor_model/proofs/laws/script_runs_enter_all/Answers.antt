use Rattle.monitor_model.proofs.Lawful.Entered as entered
use Rattle.monitor_model.proofs.laws.script_runs_enter_all.Goals as goal

pub returns : goal.returns
returns c = entered.script_runs_enter_all
