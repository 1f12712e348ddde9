use Rattle.worker_lives.proofs.Steps as steps
use Rattle.worker_lives.proofs.laws.accepts_are_pieces.Goals as goal

pub returns : goal.returns
returns c = steps.accepts_are_pieces
