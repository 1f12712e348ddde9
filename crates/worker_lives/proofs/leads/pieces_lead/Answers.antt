use Rattle.worker_lives.proofs.Waited as waited
use Rattle.worker_lives.proofs.leads.pieces_lead.Goals as goal

pub returns : goal.returns
returns c = waited.pieces_lead
