use Rattle.monitor_model.proofs.Tied as tied
use Rattle.monitor_model.proofs.ties.what_was_seen_is_placed.Goals as goal

pub returns : goal.returns
returns c = tied.seen_is_placed
