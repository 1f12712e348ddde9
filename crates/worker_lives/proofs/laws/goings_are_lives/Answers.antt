use Rattle.worker_lives.proofs.Steps as steps
use Rattle.worker_lives.proofs.laws.goings_are_lives.Goals as goal

pub returns : goal.returns
returns c = steps.goings_are_lives
