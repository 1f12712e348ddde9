use Rattle.std.specs.Arc.{arc_value}
use Rattle.okws_play.proofs.Cells.{AreFresh}
use Rattle.okws_play.proofs.play.cells.cells_of.Given as goal

abbrev pub invariant-loop-i : goal.invariant-loop-i
invariant-loop-i l = AreFresh (arc_value l.config) l.seed l.i l.cells.items
