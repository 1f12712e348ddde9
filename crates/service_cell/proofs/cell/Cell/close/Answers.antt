use Rattle.std.proofs.Common.{List, subst, sym}
use Rattle.monitor_model.specs.declared.record.CellEvent.{CellEvent}
use Rattle.monitor_model.specs.declared.sent.Sent.{Sent}
use Rattle.service_cell.specs.Hearing.{hearings, AreGiven}
use Rattle.service_cell.specs.Standing.{with_open}
use Rattle.service_cell.proofs.Sending.{are_sent}
use Rattle.service_cell.proofs.cell.Cell.close.Goals as goal

pub returns-clause-sent : goal.returns-clause-sent
returns-clause-sent g c =
    let e = c.into_pasts.ensures in
    are_sent c.args.self.config c.args.self.seed c.args.self.service c.into_pasts.result.0 c.into_pasts.result.1 e.law
    (subst (λ (J : List CellEvent). AreGiven (hearings c.args.self.config c.args.self.seed c.args.self.service J) c.into_pasts.result.1) (sym e.past)
    (subst (λ (sent : List Sent). AreGiven (hearings c.args.self.config c.args.self.seed c.args.self.service (with_open c.args.self.open_dialog c.args.self.past)) sent) (sym e.links) e.heard))
