use Rattle.worker_lives.proofs.Listed as listed
use Rattle.worker_lives.proofs.lists.orders_are_of_pieces.Goals as goal

pub returns : goal.returns
returns c = listed.orders_are_of_pieces
