use Rattle.okws_server.proofs.Ended.{told_on}
use Rattle.okws_server.proofs.ending.print_last.Goals as goal

pub returns : goal.returns
returns g c = told_on _ _ _ _ c.print.ensures
