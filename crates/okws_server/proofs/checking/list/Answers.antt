use Rattle.okws_server.proofs.Ended.{lists_by, breaks_off}
use Rattle.okws_server.proofs.checking.list.Goals as goal

pub returns-in-Ok : goal.returns-in-Ok
returns-in-Ok g c = rw c.out_status.ensures (lists_by c.args.config.now _ _ _ c.in-Ok.ensures)

pub returns-in-Err : goal.returns-in-Err
returns-in-Err g c = breaks_off _ _ _ _ _ c.in-Err.ensures c.print.ensures
