use Rattle.site_worker.proofs.Rounds.{Attending}
use Rattle.site_worker.proofs.worker.Worker.go_on.Given as goal

abbrev pub invariant-loop : goal.invariant-loop
invariant-loop g l =
    Attending g.D.Conn.Conn.wire g.N.Numbered.site g.N.Numbered.launcher l.fn.limit (g.D.Door.entrance l.fn.door) (g.D.Door.entrance l.door) l.fn.self.life l.self.life l.fn.place l.place l.connections
