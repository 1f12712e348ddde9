use Rattle.worker_lives.proofs.Steps as steps
use Rattle.worker_lives.proofs.laws.goings_join.Goals as goal

pub returns : goal.returns
returns c = steps.goings_join
