use Rattle.std.proofs.Common.{refl}
use Rattle.okws_server.proofs.top.obey.Goals as goal

pub returns-in-Drill : goal.returns-in-Drill
returns-in-Drill g c = rw c.in-Drill.is (refl, refl, c.drill-status.ensures)

pub returns-in-Play : goal.returns-in-Play
returns-in-Play g c = rw c.in-Play.is (refl, c.play-status.ensures)
