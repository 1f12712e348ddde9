use Rattle.worker_lives.proofs.Endings as endings
use Rattle.worker_lives.proofs.ends.crashes_were.Goals as goal

pub returns : goal.returns
returns c = endings.crashes_had_causes
