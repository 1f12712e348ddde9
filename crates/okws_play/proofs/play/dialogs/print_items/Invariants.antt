use Rattle.std.proofs.Common.{take}
use Rattle.okws_outer.specs.Printing.{PrintsOn, printer}
use Rattle.okws_play.specs.Printed.{items_text}
use Rattle.okws_play.proofs.play.dialogs.print_items.Given as goal

abbrev pub invariant-loop-item : goal.invariant-loop-item
invariant-loop-item g l = PrintsOn (printer g.O.Sink.given g.O.Sink.faults l.fn.out l.fn.stopped) (printer g.O.Sink.given g.O.Sink.faults l.out l.stopped) (items_text l.config l.service l.incarnation (take l.item-index l.items))
