use Rattle.monitor_model.proofs.Lawful.Records as records
use Rattle.monitor_model.proofs.laws.script_runs_are_lawful.Goals as goal

pub returns : goal.returns
returns c = record { lawful = records.script_runs_are_lawful; played = records.script_runs_are_played; unharmed = records.script_runs_are_unharmed }
