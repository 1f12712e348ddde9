use Rattle.std.proofs.Common.{subst}
use Rattle.service_cell.specs.Hearing.{AreHeard}
use Rattle.service_cell.specs.Standing.{Standing}
use Rattle.service_cell.proofs.cell.Cell.into_pasts.Goals as goal

pub returns-clause-heard : goal.returns-clause-heard
returns-clause-heard g c = subst (λ (x : Standing). AreHeard x.config x.seed x.service x.past x.open_dialog x.link x.sent) c.self.view_is c.self.invariant.heard
