use Rattle.okws_outer.proofs.Printed.{nothing_on}
use Rattle.okws_play.proofs.play.lines.print_way.Goals as goal

pub returns-in-To : goal.returns-in-To
returns-in-To g c = rw c.in-To.is (nothing_on _)
