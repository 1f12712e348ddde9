use Rattle.std.proofs.Common.{rules, ◌≡◌, length}
use Rattle.turn_lock.proofs.Rows.{rest_length}
use Rattle.site_cells.proofs.seats.CellSeats.services.Goals as goal

pub returns-clause-locks : goal.returns-clause-locks
returns-clause-locks g c =
    let size : length c.self.inside.seats.items ≡ length g.C.CellNames.cell_turns = rest_length g.C.CellNames.cell_turns c.self.inside.seats.items c.self.invariant.rest in
    search rules
