use Rattle.worker_lives.proofs.Waiting as waiting
use Rattle.worker_lives.proofs.leads.workers_lead.Goals as goal

pub returns : goal.returns
returns c = waiting.workers_lead
