use Rattle.std.proofs.Common.{length}
use Rattle.site_cells.specs.Closing.{Joining}
use Rattle.site_cells.proofs.closing.close_cells.Given as goal

abbrev pub invariant-loop-other : goal.invariant-loop-other
invariant-loop-other g l = Joining g.N.Numbered.launcher l.fn.seats.items l.left.items l.ends

abbrev pub decreases-loop-other : goal.decreases-loop-other
decreases-loop-other g l = length l.left.items
