use Rattle.worker_lives.proofs.Endings as endings
use Rattle.worker_lives.proofs.ends.beguns_end.Goals as goal

pub returns : goal.returns
returns c = endings.beguns_ended
