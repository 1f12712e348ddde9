use Rattle.monitor_model.proofs.Carried as carried
use Rattle.monitor_model.proofs.ties.dialogs_carry_requests.Goals as goal

pub returns : goal.returns
returns c = carried.dialogs_carry_requests
