use Rattle.service_cell.proofs.Wires.{puts_frame}
use Rattle.service_cell.proofs.exchange.put_frame.Goals as goal

pub returns : goal.returns
returns g c = puts_frame _ _ _ c.send.result c.send.ensures.bytes c.send.ensures.link c.requires.room
