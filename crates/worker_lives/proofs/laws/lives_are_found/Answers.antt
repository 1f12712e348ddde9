use Rattle.worker_lives.proofs.Found as found
use Rattle.worker_lives.proofs.laws.lives_are_found.Goals as goal

pub returns : goal.returns
returns c = found.lives_are_found
