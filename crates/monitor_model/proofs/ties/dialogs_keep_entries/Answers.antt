use Rattle.monitor_model.proofs.Went as went
use Rattle.monitor_model.proofs.ties.dialogs_keep_entries.Goals as goal

pub returns : goal.returns
returns c = went.dialogs_keep_entries
