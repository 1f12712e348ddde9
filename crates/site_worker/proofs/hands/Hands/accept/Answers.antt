use Rattle.std.proofs.lemmas.Result.{IfOk-weaker, on_err_weaker}
use Rattle.okws_plan.specs.declared.event.OkdEvent.TheVariants as event
use Rattle.site_worker.proofs.Asking.{enters_okd, log_of_okd, log_of_okd_seen, okd_keeps, okd_on, okd_seen_keeps, okd_seen_on, sees_okd, of_result}
use Rattle.site_locks.proofs.Seeing.{at_okd, okd_same}
use Rattle.site_worker.proofs.hands.Hands.accept.Goals as goal

pub returns-clause-ok : goal.returns-clause-ok
returns-clause-ok g c = rw (← c.self.view_is) (IfOk-weaker c.accept.result _ _ (λ way q. (q.0, q.1, at_okd c.self.inside.seats c.accept.new.self (event.Accept c.args.path) q.0 q.2, (q.2.grows.0, q.2.grows.2))) c.accept.ensures.ok)

pub returns-clause-err : goal.returns-clause-err
returns-clause-err g c = rw (← c.self.view_is) (on_err_weaker c.accept.result (λ q. okd_same c.self.inside.seats c.accept.new.self q.0 q.1) c.accept.ensures.err)

pub returns-clause-same : goal.returns-clause-same
returns-clause-same g c = rw (← c.self.view_is) (of_result c.accept.result _ _ _ c.accept.ensures.ok c.accept.ensures.err (λ way q. enters_okd (event.Accept c.args.path) q.0 c.self.inside.seats c.accept.new.self q.2) (λ q. sees_okd q.0 c.self.inside.seats c.accept.new.self q.1))

pub returns-clause-pubd : goal.returns-clause-pubd
returns-clause-pubd g c = rw (← c.self.view_is) (of_result c.accept.result _ _ _ c.accept.ensures.ok c.accept.ensures.err (λ way q. okd_keeps (event.Accept c.args.path) q.0 c.self.inside.seats c.accept.new.self q.2) (λ q. okd_seen_keeps q.0 c.self.inside.seats c.accept.new.self q.1))

pub returns-clause-okd : goal.returns-clause-okd
returns-clause-okd g c = rw (← c.self.view_is) (of_result c.accept.result _ _ _ c.accept.ensures.ok c.accept.ensures.err (λ way q. okd_on (event.Accept c.args.path) q.0 c.self.inside.seats c.accept.new.self q.2) (λ q. okd_seen_on q.0 c.self.inside.seats c.accept.new.self q.1))

pub returns-clause-oklogd : goal.returns-clause-oklogd
returns-clause-oklogd g c = rw (← c.self.view_is) (of_result c.accept.result _ _ _ c.accept.ensures.ok c.accept.ensures.err (λ way q. log_of_okd (event.Accept c.args.path) q.0 c.self.inside.seats c.accept.new.self q.2) (λ q. log_of_okd_seen q.0 c.self.inside.seats c.accept.new.self q.1))
