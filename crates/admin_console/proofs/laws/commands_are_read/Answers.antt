use Rattle.admin_console.proofs.Spelled as spelled
use Rattle.admin_console.proofs.laws.commands_are_read.Goals as goal

pub returns : goal.returns
returns c = spelled.commands_are_read
