use Rattle.monitor_model.proofs.Lawful.Told as told
use Rattle.monitor_model.proofs.laws.script_runs_tell_all.Goals as goal

pub returns : goal.returns
returns c = told.script_runs_tell_all
