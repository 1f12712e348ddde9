use Rattle.service_cell.proofs.Stepping.{next_since}
use Rattle.service_cell.proofs.cell.Cell.advance.Goals as goal

pub returns-in-Goes-clause-next : goal.returns-in-Goes-clause-next
returns-in-Goes-clause-next g c =
    next_since _ _ _ _ _ c.current-shown.ensures.board.asked c.current-shown.ensures.seen c.exchange.ensures.next

pub returns-in-Crashed-clause-next : goal.returns-in-Crashed-clause-next
returns-in-Crashed-clause-next g c =
    next_since _ _ _ _ _ c.current-shown.ensures.board.asked c.current-shown.ensures.seen c.exchange.ensures.next
