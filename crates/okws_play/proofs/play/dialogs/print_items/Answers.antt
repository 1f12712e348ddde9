use Rattle.okws_play.proofs.Going.{items_cut}
use Rattle.okws_play.proofs.Printing.{front_err}
use Rattle.okws_play.proofs.play.dialogs.print_items.Goals as goal

pub returns-in_err-print_item : goal.returns-in_err-print_item
returns-in_err-print_item g c =
    front_err c.from_residual.result _ _ _ c.from_residual.ensures.0
    (items_cut c.args.config.now c.args.service c.args.incarnation c.loop-item.item-index c.args.items.now _ _ _ _ c.item-item.is c.loop-item-test.true c.loop-item.invariant c.in_err-print_item.ensures)
