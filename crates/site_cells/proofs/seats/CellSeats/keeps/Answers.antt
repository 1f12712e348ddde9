use Rattle.site_cells.proofs.Places.{unlinked_seen}
use Rattle.site_cells.proofs.seats.CellSeats.keeps.Goals as goal

pub returns : goal.returns
returns g c = unlinked_seen c.self.inside.number c.self.inside.seats.items c.args.self.now c.self.view_is
