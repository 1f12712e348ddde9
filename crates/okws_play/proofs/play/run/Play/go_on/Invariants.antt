use Rattle.monitor_model.specs.Stage.{stand}
use Rattle.okws_outer.specs.Printing.{printer}
use Rattle.okws_play.specs.Cells.{left_to_do}
use Rattle.okws_play.proofs.Going.{HasGone}
use Rattle.okws_play.proofs.play.run.Play.go_on.Given as goal

abbrev pub invariant-ready : goal.invariant-ready
invariant-ready g l = HasGone l.service l.fn.self (printer g.O.Sink.given g.O.Sink.faults l.fn.out l.fn.stopped) (printer g.O.Sink.given g.O.Sink.faults l.out l.stopped) l.self

abbrev pub decreases-ready : goal.decreases-ready
decreases-ready g l = left_to_do (stand l.self.stage l.service)
