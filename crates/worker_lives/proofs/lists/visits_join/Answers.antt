use Rattle.worker_lives.proofs.Listed as listed
use Rattle.worker_lives.proofs.lists.visits_join.Goals as goal

pub returns : goal.returns
returns c = listed.visits_join
