use Rattle.monitor_model.proofs.Installed as installed
use Rattle.monitor_model.proofs.laws.legal_runs_boot_first.Goals as goal

pub returns : goal.returns
returns c = installed.boots_come_first
