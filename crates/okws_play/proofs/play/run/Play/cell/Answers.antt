use Rattle.std.proofs.Common.{◌<◌, length, sym, subst}
use Rattle.okws_play.specs.Cells.{IsSeat}
use Rattle.okws_play.specs.Run.{Run}
use Rattle.okws_play.proofs.Cells.{below_cells, cell_of}
use Rattle.okws_play.proofs.play.run.Play.cell.Goals as goal

pub returns-clause-seat : goal.returns-clause-seat
returns-clause-seat c =
    let below = below_cells _ _ _ _ _ c.args.service c.self.invariant (subst (λ (v : Run). c.args.service < length v.config.services) (sym c.self.view_is) c.requires) in
    subst (λ (v : Run). IsSeat v.config v.seed c.args.service c.index.result.now) c.self.view_is (cell_of _ _ _ _ _ c.self.invariant.seats_are below c.index.ensures).seat
