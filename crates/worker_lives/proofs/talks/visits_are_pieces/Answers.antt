use Rattle.worker_lives.proofs.Talked as talked
use Rattle.worker_lives.proofs.talks.visits_are_pieces.Goals as goal

pub returns : goal.returns
returns c = talked.visits_are_pieces
