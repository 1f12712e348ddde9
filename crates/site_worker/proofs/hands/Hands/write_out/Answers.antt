use Rattle.std.proofs.Common.{ap}
use Rattle.site_locks.specs.Sat.{Sat}
use Rattle.site_worker.proofs.Asking.{log_on, past_kept, sees_log}
use Rattle.site_locks.proofs.Seeing.{log_same}
use Rattle.site_worker.proofs.hands.Hands.write_out.Goals as goal

pub returns-clause-seen : goal.returns-clause-seen
returns-clause-seen g c = rw (← c.self.view_is) (log_same c.self.inside.seats c.write_out.new.self c.write_out.ensures.0 c.write_out.ensures.1)

pub returns-clause-same : goal.returns-clause-same
returns-clause-same g c = rw (← c.self.view_is) (sees_log c.write_out.ensures.0 c.self.inside.seats c.write_out.new.self c.write_out.ensures.1)

pub returns-clause-pubd : goal.returns-clause-pubd
returns-clause-pubd g c = rw (← c.self.view_is) (past_kept c.self.inside.seats.pubd c.write_out.new.self.pubd (ap (λ (x : Sat). x.pubd) c.write_out.ensures.1.is))

pub returns-clause-okd : goal.returns-clause-okd
returns-clause-okd g c = rw (← c.self.view_is) (past_kept c.self.inside.seats.okd c.write_out.new.self.okd (ap (λ (x : Sat). x.okd) c.write_out.ensures.1.is))

pub returns-clause-oklogd : goal.returns-clause-oklogd
returns-clause-oklogd g c = rw (← c.self.view_is) (log_on c.write_out.ensures.0 c.self.inside.seats c.write_out.new.self c.write_out.ensures.1)
