use Rattle.worker_lives.proofs.Steps as steps
use Rattle.worker_lives.proofs.laws.rests_are_no_pieces.Goals as goal

pub returns : goal.returns
returns c = steps.rests_are_no_pieces
