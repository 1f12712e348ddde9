use Rattle.std.proofs.Common.{◌≡◌, map}
use Rattle.std.specs.Prelude.{vec_len, vec_capacity}
use Rattle.site_cells.specs.Row.{Rise}
use Rattle.turn_lock.specs.Rows.{AllNone}
use Rattle.site_making.proofs.cells.cells.Given as goal

abbrev pub invariant-loop-service : goal.invariant-loop-service
invariant-loop-service g l = record {
  new : AllNone (map (λ c. c.entered) l.cells.items);
  numbered : Rise 0 (map (λ c. c.standing.service) l.cells.items);
  many : l.service ≡ vec_len l.cells;
  room : vec_capacity l.cells ≡ l.services;
}
