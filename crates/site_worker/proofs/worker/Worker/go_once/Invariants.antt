use Rattle.site_worker.proofs.Rounds.{Awaiting}
use Rattle.site_worker.proofs.worker.Worker.go_once.Given as goal

abbrev pub invariant-loop : goal.invariant-loop
invariant-loop g l = Awaiting (g.D.Door.entrance l.fn.door) (g.D.Door.entrance l.door) l.fn.self.life l.self.life l.fn.place l.place
