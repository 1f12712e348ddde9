use Rattle.worker_lives.proofs.Others as others
use Rattle.worker_lives.proofs.laws.others_leave_dialogs.Goals as goal

pub returns : goal.returns
returns c = others.others_leave_dialogs
