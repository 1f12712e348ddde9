use Rattle.std.proofs.Common.{◌≡◌, map, take}
use Rattle.site_cells.specs.Held.{events_in}
use Rattle.site_cells.proofs.closing.keep_all.Given as goal

abbrev pub invariant-loop-cell : goal.invariant-loop-cell
invariant-loop-cell g l = map (λ c. c.standing.past) (take l.cell-index l.cells) ≡ map events_in (map (λ c. c.entered) (take l.cell-index l.cells))
