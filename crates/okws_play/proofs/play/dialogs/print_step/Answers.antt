use Rattle.okws_play.proofs.Going.{newest_spelled, newest_printed}
use Rattle.okws_play.proofs.play.dialogs.print_step.Goals as goal

pub print_items-requires : goal.print_items-requires
print_items-requires g c = newest_spelled c.args.cell.now.open_dialog c.last_items.result.now c.requires.open c.requires.spelled c.last_items.ensures.items

pub returns : goal.returns
returns g c =
    newest_printed c.print_items.result c.args.config.now c.args.cell.now c.service.result c.incarnation.result c.last_items.result.now _ _ c.service.ensures c.incarnation.ensures c.requires.open c.last_items.ensures.items
    c.print_items.ensures
