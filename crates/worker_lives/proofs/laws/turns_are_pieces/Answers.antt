use Rattle.worker_lives.proofs.Steps as steps
use Rattle.worker_lives.proofs.laws.turns_are_pieces.Goals as goal

pub returns : goal.returns
returns c = steps.turns_are_pieces
