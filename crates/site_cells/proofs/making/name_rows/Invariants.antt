use Rattle.std.proofs.Common.{◌+◌, ◌≤◌, length, map}
use Rattle.std.specs.Prelude.{vec_len, vec_capacity}
use Rattle.site_cells.specs.Making.{Naming}
use Rattle.site_cells.proofs.making.name_rows.Given as goal

abbrev pub invariant-loop-seats : goal.invariant-loop-seats
invariant-loop-seats g l = Naming g.C.CellNames.cell_turns (vec_len l.fn.rows) (map (λ r. r.items) l.rows.items) l.all.items l.number × (vec_len l.rows + vec_len l.all ≤ vec_capacity l.all)

abbrev pub decreases-loop-seats : goal.decreases-loop-seats
decreases-loop-seats g l = length l.rows.items
