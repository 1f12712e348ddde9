use Rattle.std.proofs.lemmas.Result.{IfOk-weaker, on_err_weaker}
use Rattle.site_worker.proofs.Asking.{log_of_pubd, log_of_published, okd_of_pubd, okd_of_published, publishes_at, published_keeps, published_board, pubd_keeps, sees_pubd, of_result}
use Rattle.site_locks.proofs.Seeing.{pubd_same}
use Rattle.site_worker.proofs.hands.Hands.publish.Goals as goal

pub returns-clause-ok : goal.returns-clause-ok
returns-clause-ok g c = rw (← c.self.view_is) (IfOk-weaker c.publish.result _ _ (λ v q. publishes_at c.args.template c.args.content v q.0 c.self.inside.seats c.publish.new.self q.1 q.2) c.publish.ensures.ok)

pub returns-clause-err : goal.returns-clause-err
returns-clause-err g c = rw (← c.self.view_is) (on_err_weaker c.publish.result (λ q. pubd_same c.self.inside.seats c.publish.new.self q.0 q.1) c.publish.ensures.err)

pub returns-clause-same : goal.returns-clause-same
returns-clause-same g c = rw (← c.self.view_is) (of_result c.publish.result _ _ _ c.publish.ensures.ok c.publish.ensures.err (λ v q. published_board c.args.template c.args.content v q.0 c.self.inside.seats c.publish.new.self q.2) (λ q. sees_pubd q.0 c.self.inside.seats c.publish.new.self q.1))

pub returns-clause-pubd : goal.returns-clause-pubd
returns-clause-pubd g c = rw (← c.self.view_is) (of_result c.publish.result _ _ _ c.publish.ensures.ok c.publish.ensures.err (λ v q. published_keeps c.args.template c.args.content v q.0 c.self.inside.seats c.publish.new.self q.2) (λ q. pubd_keeps q.0 c.self.inside.seats c.publish.new.self q.1))

pub returns-clause-okd : goal.returns-clause-okd
returns-clause-okd g c = rw (← c.self.view_is) (of_result c.publish.result _ _ _ c.publish.ensures.ok c.publish.ensures.err (λ v q. okd_of_published c.args.template c.args.content v q.0 c.self.inside.seats c.publish.new.self q.2) (λ q. okd_of_pubd q.0 c.self.inside.seats c.publish.new.self q.1))

pub returns-clause-oklogd : goal.returns-clause-oklogd
returns-clause-oklogd g c = rw (← c.self.view_is) (of_result c.publish.result _ _ _ c.publish.ensures.ok c.publish.ensures.err (λ v q. log_of_published c.args.template c.args.content v q.0 c.self.inside.seats c.publish.new.self q.2) (λ q. log_of_pubd q.0 c.self.inside.seats c.publish.new.self q.1))
