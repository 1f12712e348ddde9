use Rattle.monitor_model.proofs.Complete as complete
use Rattle.monitor_model.proofs.laws.live_tokens_are_opened.Goals as goal

pub returns : goal.returns
returns c = complete.live_tokens_are_opened
