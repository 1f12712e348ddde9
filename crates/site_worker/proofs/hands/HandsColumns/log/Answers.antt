use Rattle.std.proofs.Common.{subst, sym}
use Rattle.std.proofs.lemmas.Result.{IfOk-weaker, on_err_weaker}
use Rattle.okws_plan.specs.declared.event.LogEvent.TheVariants as event
use Rattle.site_locks.specs.Heard.{AreInstalled, columns_of}
use Rattle.site_locks.specs.Sat.{Sat}
use Rattle.site_worker.proofs.Asking.{enters_log, sees_log, keeps_same, of_result}
use Rattle.site_locks.proofs.Seeing.{at_log, log_same}
use Rattle.site_worker.proofs.hands.HandsColumns.log.Goals as goal

pub log-requires-clause-installed : goal.log-requires-clause-installed
log-requires-clause-installed g c = (subst (λ (x : Sat). AreInstalled g.N.Numbered.site c.args.service c.args.incarnation (columns_of x)) (sym c.self.view_is) c.requires.may).oklogd

pub returns-clause-ok : goal.returns-clause-ok
returns-clause-ok g c = rw (← c.self.view_is) (IfOk-weaker c.log.result _ _ (λ v q. (q.0, q.1, at_log c.self.inside.seats c.log.new.self (event.Log c.args.service c.args.incarnation c.args.text) q.0 q.2)) c.log.ensures.ok)

pub returns-clause-err : goal.returns-clause-err
returns-clause-err g c = rw (← c.self.view_is) (on_err_weaker c.log.result (λ q. log_same c.self.inside.seats c.log.new.self q.0 q.1) c.log.ensures.err)

pub returns-clause-board : goal.returns-clause-board
returns-clause-board g c = rw (← c.self.view_is) (keeps_same g.N.Numbered.site g.N.Numbered.run_seed c.self.inside.seats c.log.new.self (of_result c.log.result _ _ _ c.log.ensures.ok c.log.ensures.err (λ v q. enters_log (event.Log c.args.service c.args.incarnation c.args.text) q.0 c.self.inside.seats c.log.new.self q.2) (λ q. sees_log q.0 c.self.inside.seats c.log.new.self q.1)))
