use Rattle.std.proofs.Common.{subst, sym}
use Rattle.std.proofs.lemmas.Result.{on_err_weaker}
use Rattle.okws_plan.specs.declared.event.PubdEvent.TheVariants as event
use Rattle.site_locks.specs.Heard.{AreInstalled, columns_of}
use Rattle.site_locks.specs.Sat.{Sat}
use Rattle.site_worker.proofs.Asking.{drains_ok, drains_pubd, sees_pubd, keeps_same, of_result}
use Rattle.site_locks.proofs.Seeing.{pubd_same}
use Rattle.site_worker.proofs.hands.HandsColumns.drain.Goals as goal

pub drain-requires-clause-installed : goal.drain-requires-clause-installed
drain-requires-clause-installed g c = (subst (λ (x : Sat). AreInstalled g.N.Numbered.site c.args.service c.args.incarnation (columns_of x)) (sym c.self.view_is) c.requires.may).pubd

pub returns-clause-ok : goal.returns-clause-ok
returns-clause-ok g c = rw (← c.self.view_is) (drains_ok g.N.Numbered.site c.self.inside.seats c.drain.new.self c.args.service c.args.incarnation c.drain.result (λ v. v.items) c.drain.ensures.ok c.drain.ensures.short)

pub returns-clause-err : goal.returns-clause-err
returns-clause-err g c = rw (← c.self.view_is) (on_err_weaker c.drain.result (λ q. pubd_same c.self.inside.seats c.drain.new.self q.0 q.1) c.drain.ensures.err)

pub returns-clause-board : goal.returns-clause-board
returns-clause-board g c = rw (← c.self.view_is) (keeps_same g.N.Numbered.site g.N.Numbered.run_seed c.self.inside.seats c.drain.new.self (of_result c.drain.result _ _ _ c.drain.ensures.ok c.drain.ensures.err (λ v q. drains_pubd c.args.service (event.Drain c.args.service c.args.incarnation) q.0 c.self.inside.seats c.drain.new.self q.2) (λ q. sees_pubd q.0 c.self.inside.seats c.drain.new.self q.1)))
