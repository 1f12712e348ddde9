use Rattle.worker_lives.proofs.Talked as talked
use Rattle.worker_lives.proofs.talks.outcomes_carry_requests.Goals as goal

pub returns : goal.returns
returns c = talked.outcomes_carry_requests
