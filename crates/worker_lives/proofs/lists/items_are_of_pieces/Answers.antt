use Rattle.worker_lives.proofs.Listed as listed
use Rattle.worker_lives.proofs.lists.items_are_of_pieces.Goals as goal

pub returns : goal.returns
returns c = listed.items_are_of_pieces
