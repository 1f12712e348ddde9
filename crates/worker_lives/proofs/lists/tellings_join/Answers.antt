use Rattle.worker_lives.proofs.Told as told
use Rattle.worker_lives.proofs.lists.tellings_join.Goals as goal

pub returns : goal.returns
returns c = told.told_both
