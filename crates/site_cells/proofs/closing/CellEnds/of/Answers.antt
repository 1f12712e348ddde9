use Rattle.std.proofs.Common.{sym}
use Rattle.site_cells.proofs.Joins.{own_grows, own_has}
use Rattle.site_cells.proofs.closing.CellEnds.of.Goals as goal

pub returns-clause-told : goal.returns-clause-told
returns-clause-told g c = λ Js grown. own_grows g.N.Numbered.launcher c.args.seats.number c.into_row.result.items c.args.seats Js c.into_row.ensures.alone (sym c.into_row.ensures.seen) grown

pub returns-clause-has : goal.returns-clause-has
returns-clause-has g c = own_has c.args.seats.number c.into_row.result.items c.args.seats c.into_row.ensures.alone (sym c.into_row.ensures.seen)
