use Rattle.monitor_model.proofs.Lived as lived
use Rattle.monitor_model.proofs.ties.lives_are_pieces.Goals as goal

pub returns : goal.returns
returns c = lived.lives_are_pieces
