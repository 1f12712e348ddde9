use Rattle.std.proofs.Common.{subst, sym}
use Rattle.std.proofs.lemmas.Result.{IfOk-weaker, on_err_weaker}
use Rattle.okws_plan.specs.declared.event.PubdEvent.TheVariants as event
use Rattle.site_locks.specs.Heard.{AreInstalled, columns_of}
use Rattle.site_locks.specs.Sat.{Sat}
use Rattle.site_worker.proofs.Asking.{enters_pubd, sees_pubd, keeps_same, of_result}
use Rattle.site_locks.proofs.Seeing.{at_pubd, pubd_same}
use Rattle.site_worker.proofs.hands.HandsColumns.get.Goals as goal

pub get-requires-clause-installed : goal.get-requires-clause-installed
get-requires-clause-installed g c = (subst (λ (x : Sat). AreInstalled g.N.Numbered.site c.args.service c.args.incarnation (columns_of x)) (sym c.self.view_is) c.requires.may).pubd

pub returns-clause-ok : goal.returns-clause-ok
returns-clause-ok g c = rw (← c.self.view_is) (IfOk-weaker c.get.result _ _ (λ v q. (q.0, q.1, at_pubd c.self.inside.seats c.get.new.self (event.Get c.args.service c.args.incarnation c.args.name) q.0 q.2)) c.get.ensures.ok)

pub returns-clause-err : goal.returns-clause-err
returns-clause-err g c = rw (← c.self.view_is) (on_err_weaker c.get.result (λ q. pubd_same c.self.inside.seats c.get.new.self q.0 q.1) c.get.ensures.err)

pub returns-clause-board : goal.returns-clause-board
returns-clause-board g c = rw (← c.self.view_is) (keeps_same g.N.Numbered.site g.N.Numbered.run_seed c.self.inside.seats c.get.new.self (of_result c.get.result _ _ _ c.get.ensures.ok c.get.ensures.err (λ v q. enters_pubd (event.Get c.args.service c.args.incarnation c.args.name) q.0 c.self.inside.seats c.get.new.self q.2) (λ q. sees_pubd q.0 c.self.inside.seats c.get.new.self q.1)))
