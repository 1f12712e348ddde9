use Rattle.std.proofs.Common.{◌≡◌, ap}
use Rattle.std.proofs.lemmas.Result.{on_ok_weaker, on_err_weaker}
use Rattle.okws_plan.specs.declared.event.OkdEvent.{OkdEvent}
use Rattle.okws_plan.specs.declared.event.OkdEvent.TheVariants as event
use Rattle.monitor_model.specs.Okd.{accept_verdict}
use Rattle.named_columns.specs.Held.{Held}
use Rattle.named_columns.proofs.Turning.{adds_own, ok_enters, err_sees}
use Rattle.named_columns.proofs.okd_turn.accept.Goals as goal

pub give-requires-clause-adds : goal.give-requires-clause-adds
give-requires-clause-adds g c = adds_own c.take-okd.result.holder c.take-okd.result.past c.accept-answer.new.self.past c.args.seat.now c.take-okd.new.seat c.take-okd.ensures.seat c.take-okd.ensures.holder c.accept-answer.ensures.adds

pub returns-clause-ok : goal.returns-clause-ok
returns-clause-ok g c = ok_enters c.accept-answer.result (λ way before. way ≡ accept_verdict g.N.Numbered.site before c.args.path) (event.Accept c.args.path) c.take-okd.result.holder c.take-okd.result.past c.accept-answer.new.self.past c.args.seat.now c.take-okd.new.seat c.give.new.seat (record { grows = c.take-okd.ensures.grows; took = c.take-okd.ensures.seat; holder = c.take-okd.ensures.holder; free = c.requires.free; gave = c.give.ensures.seat }) c.accept-answer.ensures.verdict
    (on_ok_weaker c.accept-answer.result (ap (λ (x : Held OkdEvent). x.past)) c.accept-answer.ensures.ok)

pub returns-clause-err : goal.returns-clause-err
returns-clause-err g c = err_sees c.accept-answer.result c.take-okd.result.holder c.take-okd.result.past c.accept-answer.new.self.past c.args.seat.now c.take-okd.new.seat c.give.new.seat (record { grows = c.take-okd.ensures.grows; took = c.take-okd.ensures.seat; holder = c.take-okd.ensures.holder; free = c.requires.free; gave = c.give.ensures.seat })
    (on_err_weaker c.accept-answer.result (ap (λ (x : Held OkdEvent). x.past)) c.accept-answer.ensures.err)
