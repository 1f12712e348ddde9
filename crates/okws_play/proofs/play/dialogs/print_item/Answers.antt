use Rattle.okws_outer.proofs.Printed.{nothing_on}
use Rattle.okws_play.proofs.play.dialogs.print_item.Goals as goal

pub returns-in-Said : goal.returns-in-Said
returns-in-Said g c = rw c.in-Said.is (nothing_on _)
