use Rattle.monitor_model.proofs.Tied as tied
use Rattle.monitor_model.proofs.ties.cell_laws_are_parts.Goals as goal

pub returns : goal.returns
returns c = tied.cell_laws_are_parts
