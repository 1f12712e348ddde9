use Rattle.std.proofs.Common.{length, map}
use Rattle.turn_lock.specs.Rows.{RowsGathering}
use Rattle.turn_tests.proofs.row.close_row.Given as goal

abbrev pub invariant-loop-row : goal.invariant-loop-row
invariant-loop-row g l = RowsGathering g.V.Journaled.by l.turns.items (map (λ s. s.items) l.fn.rows.items) (map (λ s. s.items) l.rows.items) l.all.items

abbrev pub decreases-loop-row : goal.decreases-loop-row
decreases-loop-row g l = length l.rows.items
