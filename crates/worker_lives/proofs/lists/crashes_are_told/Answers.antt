use Rattle.worker_lives.proofs.Told as told
use Rattle.worker_lives.proofs.lists.crashes_are_told.Goals as goal

pub returns : goal.returns
returns c = told.crashes_told
