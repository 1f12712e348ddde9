use Rattle.okws_outer.proofs.Printed.{then_on}
use Rattle.okws_server.proofs.counting.print_counts.Goals as goal

pub returns : goal.returns
returns g c =
    then_on _ _ _ _ _ (then_on _ _ _ _ _ (then_on _ _ _ _ _ (then_on _ _ _ _ _ c.print_count.ensures c.print_count-2.ensures) c.print_count-3.ensures) c.print_count-4.ensures) c.print_count-5.ensures
