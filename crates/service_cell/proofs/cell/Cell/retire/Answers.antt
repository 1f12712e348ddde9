use Rattle.std.proofs.Common.{subst}
use Rattle.monitor_model.specs.Cell.{CellLaw}
use Rattle.service_cell.specs.Hearing.{AreHeard}
use Rattle.service_cell.specs.Standing.{Standing}
use Rattle.service_cell.proofs.Sending.{closed_sent}
use Rattle.service_cell.proofs.cell.Cell.retire.Goals as goal

pub returns-clause-sent : goal.returns-clause-sent
returns-clause-sent g c =
    let was = c.args.self.now in
    let law = subst (λ (x : Standing). CellLaw x.past) c.self.view_is c.self.invariant.tied.law in
    let heard = subst (λ (x : Standing). AreHeard x.config x.seed x.service x.past x.open_dialog x.link x.sent) c.self.view_is c.self.invariant.heard in
    closed_sent was.config was.seed was.service was.past was.open_dialog was.link was.sent c.requires law heard
