use Rattle.worker_lives.proofs.Endings as endings
use Rattle.worker_lives.proofs.ends.launches_end.Goals as goal

pub returns : goal.returns
returns c = endings.launches_ended
