use Rattle.worker_lives.proofs.Listed as listed
use Rattle.worker_lives.proofs.lists.turns_are_no_visits.Goals as goal

pub returns : goal.returns
returns c = listed.turns_are_no_visits
