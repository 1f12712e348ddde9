use Rattle.std.proofs.Common.{◌≡◌, ap}
use Rattle.std.proofs.lemmas.Result.{on_ok_weaker, on_err_weaker}
use Rattle.okws_plan.specs.declared.event.LogEvent.TheVariants as event
use Rattle.monitor_model.specs.Logd.{log_verdict}
use Rattle.monitor_model.specs.Standing.{log_grant}
use Rattle.named_columns.specs.Held.{HeldLog}
use Rattle.named_columns.proofs.Asked.{stood_grown}
use Rattle.named_columns.proofs.Turning.{adds_own, ok_enters, err_sees}
use Rattle.named_columns.proofs.log_turn.log.Goals as goal

pub log-answer-requires-clause-installed : goal.log-answer-requires-clause-installed
log-answer-requires-clause-installed g c = stood_grown log_grant c.args.service c.args.incarnation c.args.seat.now.number c.args.seat.now.seen c.take-oklogd.result.past c.take-oklogd.ensures.grows c.requires.installed

pub give-requires-clause-adds : goal.give-requires-clause-adds
give-requires-clause-adds g c = adds_own c.take-oklogd.result.holder c.take-oklogd.result.past c.log-answer.new.self.past c.args.seat.now c.take-oklogd.new.seat c.take-oklogd.ensures.seat c.take-oklogd.ensures.holder c.log-answer.ensures.adds

pub returns-clause-ok : goal.returns-clause-ok
returns-clause-ok g c = ok_enters c.log-answer.result (λ v before. v ≡ log_verdict g.N.Numbered.site before c.args.service c.args.incarnation c.args.text) (event.Log c.args.service c.args.incarnation c.args.text) c.take-oklogd.result.holder c.take-oklogd.result.past c.log-answer.new.self.past c.args.seat.now c.take-oklogd.new.seat c.give.new.seat (record { grows = c.take-oklogd.ensures.grows; took = c.take-oklogd.ensures.seat; holder = c.take-oklogd.ensures.holder; free = c.requires.free; gave = c.give.ensures.seat }) c.log-answer.ensures.verdict
    (on_ok_weaker c.log-answer.result (ap (λ (x : HeldLog). x.past)) c.log-answer.ensures.ok)

pub returns-clause-err : goal.returns-clause-err
returns-clause-err g c = err_sees c.log-answer.result c.take-oklogd.result.holder c.take-oklogd.result.past c.log-answer.new.self.past c.args.seat.now c.take-oklogd.new.seat c.give.new.seat (record { grows = c.take-oklogd.ensures.grows; took = c.take-oklogd.ensures.seat; holder = c.take-oklogd.ensures.holder; free = c.requires.free; gave = c.give.ensures.seat })
    (on_err_weaker c.log-answer.result (ap (λ (x : HeldLog). x.past)) c.log-answer.ensures.err)
