use Rattle.worker_lives.proofs.Begun as begun
use Rattle.worker_lives.proofs.laws.turns_alone_are_lives.Goals as goal

pub returns : goal.returns
returns c = begun.turns_alone_are_lives
