use Rattle.site_worker.proofs.Commands.{Overseeing}
use Rattle.site_worker.proofs.worker.Worker.oversee.Given as goal

abbrev pub invariant-loop : goal.invariant-loop
invariant-loop g l = Overseeing g.N.Numbered.site (g.O.Conn.wire l.fn.console) (g.O.Conn.wire l.console) l.fn.reader l.reader l.fn.self.life l.self.life
