use Rattle.std.proofs.Common.{◌≡◌, ap}
use Rattle.std.proofs.lemmas.Result.{on_ok_weaker, on_err_weaker}
use Rattle.okws_plan.specs.declared.event.PubdEvent.{PubdEvent}
use Rattle.okws_plan.specs.declared.event.PubdEvent.TheVariants as event
use Rattle.monitor_model.specs.Pubd.{get_verdict}
use Rattle.monitor_model.specs.Standing.{pubd_grant}
use Rattle.named_columns.specs.Held.{Held}
use Rattle.named_columns.proofs.Asked.{stood_grown}
use Rattle.named_columns.proofs.Turning.{adds_own, ok_enters, err_sees}
use Rattle.named_columns.proofs.pubd_turn.get.Goals as goal

pub get-answer-requires-clause-installed : goal.get-answer-requires-clause-installed
get-answer-requires-clause-installed g c = stood_grown pubd_grant c.args.service c.args.incarnation c.args.seat.now.number c.args.seat.now.seen c.take-pubd.result.past c.take-pubd.ensures.grows c.requires.installed

pub give-requires-clause-adds : goal.give-requires-clause-adds
give-requires-clause-adds g c = adds_own c.take-pubd.result.holder c.take-pubd.result.past c.get-answer.new.self.past c.args.seat.now c.take-pubd.new.seat c.take-pubd.ensures.seat c.take-pubd.ensures.holder c.get-answer.ensures.adds

pub returns-clause-ok : goal.returns-clause-ok
returns-clause-ok g c = ok_enters c.get-answer.result (λ v before. v ≡ get_verdict g.N.Numbered.site before c.args.service c.args.incarnation c.args.name) (event.Get c.args.service c.args.incarnation c.args.name) c.take-pubd.result.holder c.take-pubd.result.past c.get-answer.new.self.past c.args.seat.now c.take-pubd.new.seat c.give.new.seat (record { grows = c.take-pubd.ensures.grows; took = c.take-pubd.ensures.seat; holder = c.take-pubd.ensures.holder; free = c.requires.free; gave = c.give.ensures.seat }) c.get-answer.ensures.verdict
    (on_ok_weaker c.get-answer.result (ap (λ (x : Held PubdEvent). x.past)) c.get-answer.ensures.ok)

pub returns-clause-err : goal.returns-clause-err
returns-clause-err g c = err_sees c.get-answer.result c.take-pubd.result.holder c.take-pubd.result.past c.get-answer.new.self.past c.args.seat.now c.take-pubd.new.seat c.give.new.seat (record { grows = c.take-pubd.ensures.grows; took = c.take-pubd.ensures.seat; holder = c.take-pubd.ensures.holder; free = c.requires.free; gave = c.give.ensures.seat })
    (on_err_weaker c.get-answer.result (ap (λ (x : Held PubdEvent). x.past)) c.get-answer.ensures.err)
