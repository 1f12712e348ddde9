use Rattle.std.proofs.Common.{sym, subst}
use Rattle.std.proofs.lemmas.Result.{IfOk-weaker, on_err_weaker}
use Rattle.okws_plan.specs.declared.event.ProxyEvent.TheVariants as event
use Rattle.site_locks.specs.Heard.{AreInstalled, columns_of}
use Rattle.site_locks.specs.Sat.{Sat}
use Rattle.site_worker.proofs.Asking.{enters_proxy, sees_proxy, keeps_same, of_result}
use Rattle.site_locks.proofs.Seeing.{at_proxy, proxy_same}
use Rattle.site_worker.proofs.hands.HandsColumns.open_session.Goals as goal

pub open_session-requires-clause-installed : goal.open_session-requires-clause-installed
open_session-requires-clause-installed g c = (subst (λ (x : Sat). AreInstalled g.N.Numbered.site c.args.service c.args.incarnation (columns_of x)) (sym c.self.view_is) c.requires.may).proxies c.args.proxy c.requires.proxy

pub returns-clause-ok : goal.returns-clause-ok
returns-clause-ok g c = rw (← c.self.view_is) (IfOk-weaker c.open_session.result _ _ (λ v q. (q.0, q.1, at_proxy c.self.inside.seats c.open_session.new.self c.args.proxy (event.Open c.args.service c.args.incarnation c.args.shown) q.0 q.2)) c.open_session.ensures.ok)

pub returns-clause-err : goal.returns-clause-err
returns-clause-err g c = rw (← c.self.view_is) (on_err_weaker c.open_session.result (λ q. proxy_same c.self.inside.seats c.open_session.new.self c.args.proxy q.0 q.1) c.open_session.ensures.err)

pub returns-clause-board : goal.returns-clause-board
returns-clause-board g c = rw (← c.self.view_is) (keeps_same g.N.Numbered.site g.N.Numbered.run_seed c.self.inside.seats c.open_session.new.self (of_result c.open_session.result _ _ _ c.open_session.ensures.ok c.open_session.ensures.err (λ v q. enters_proxy c.args.proxy (event.Open c.args.service c.args.incarnation c.args.shown) q.0 c.self.inside.seats c.open_session.new.self q.2) (λ q. sees_proxy c.args.proxy q.0 c.self.inside.seats c.open_session.new.self q.1)))
