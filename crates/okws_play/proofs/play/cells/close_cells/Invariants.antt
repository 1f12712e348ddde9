use Rattle.std.proofs.Common.{List, ℕ}
use Rattle.okws_plan.specs.declared.configuration.Config.{Config}
use Rattle.okws_play.specs.Cells.{AreSeats, stands_by}
use Rattle.okws_play.proofs.Closing.{HasClosed}
use Rattle.okws_play.proofs.play.cells.close_cells.Given as goal

abbrev pub invariant-loop-cell : goal.invariant-loop-cell
invariant-loop-cell l = (C : Config) (seed : List ℕ) → AreSeats C seed 0 l.fn.cells.items → HasClosed C seed (stands_by l.fn.cells.items) l.yielded l.cell-iterator.rest.items l.pasts.items l.sents.items
