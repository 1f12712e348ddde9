use Rattle.worker_lives.proofs.Steps as steps
use Rattle.worker_lives.proofs.laws.lives_end_in_records.Goals as goal

pub returns : goal.returns
returns c = steps.lives_end_in_records
