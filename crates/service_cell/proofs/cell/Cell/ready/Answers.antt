use Rattle.std.proofs.Common.{sym, ap}
use Rattle.service_cell.specs.Standing.{Standing}
use Rattle.service_cell.proofs.Readiness.{ready_by}
use Rattle.service_cell.proofs.cell.Cell.ready.Goals as goal

pub returns-else-is_ended : goal.returns-else-is_ended
returns-else-is_ended g c =
    ready_by _ _ c.in-Some.link c.args.self.now.link c.left.result.now c.is_short.result (ap (λ (s : Standing). s.link) c.self.view_is) c.in-Some.is (sym c.left.ensures) (sym c.if-is_ended.ensures) c.is_short.ensures.settled c.is_short.ensures.short
