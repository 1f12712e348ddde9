use Rattle.okws_outer.specs.Printing.{printer}
use Rattle.okws_server.proofs.Drilled.{drill_ends}
use Rattle.okws_server.proofs.Ended.{prints_as}
use Rattle.okws_server.proofs.drilling.drill.Goals as goal

pub returns-in-Ok : goal.returns-in-Ok
returns-in-Ok g c =
    rw c.out_status.ensures
    (drill_ends c.args.number c.args.events c.in-Ok.outcome.record c.in-Ok.outcome.text.items (g.O.Sink.given c.args.out.now) (g.O.Sink.faults c.args.out.now) (printer g.O.Sink.given g.O.Sink.faults c.print.new.out c.print.new.stopped)
    c.in-Ok.ensures (prints_as _ _ _ _ c.deref.ensures.value c.print.ensures))
