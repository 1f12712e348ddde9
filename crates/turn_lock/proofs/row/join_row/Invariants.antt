use Rattle.std.proofs.Common.{length}
use Rattle.turn_lock.specs.Rows.{Rowing}
use Rattle.turn_lock.proofs.row.join_row.Given as goal

abbrev pub invariant-loop-other : goal.invariant-loop-other
invariant-loop-other g l = Rowing g.V.Journaled.by l.turns.items l.fn.others.items l.others.items l.fn.into.items l.into.items

abbrev pub decreases-loop-other : goal.decreases-loop-other
decreases-loop-other g l = length l.others.items
