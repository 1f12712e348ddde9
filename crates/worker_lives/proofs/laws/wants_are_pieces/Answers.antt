use Rattle.worker_lives.proofs.Steps as steps
use Rattle.worker_lives.proofs.laws.wants_are_pieces.Goals as goal

pub returns : goal.returns
returns c = steps.wants_are_pieces
