use Rattle.std.proofs.Common.{◌∙◌, sym, ap}
use Rattle.std.specs.Prelude.{option_map}
use Rattle.service_cell.specs.Standing.{Standing}
use Rattle.service_cell.proofs.cell.Cell.lend.Goals as goal

pub returns-clause-may : goal.returns-clause-may
returns-clause-may g c = (g.L.Link.wire c.in-Some.link, sym (ap (λ (x : Standing). x.link) c.self.view_is) ∙ ap (option_map g.L.Link.wire) c.in-Some.is, c.hear.ensures.may)
