use Rattle.std.proofs.Common.{ap, subst}
use Rattle.okws_base.specs.Turns.{GrowsBy}
use Rattle.named_columns.specs.Launched.{by_entry}
use Rattle.std.proofs.lemmas.Result.{on_ok_weaker, on_err_weaker}
use Rattle.okws_plan.specs.declared.event.LogEvent.TheVariants as event
use Rattle.monitor_model.specs.Standing.{log_grant}
use Rattle.named_columns.specs.Held.{HeldLog}
use Rattle.named_columns.proofs.Stays.{last_stays, stays}
use Rattle.named_columns.proofs.Turning.{adds_own, ok_launches, err_launches}
use Rattle.named_columns.proofs.log_turn.install.Goals as goal

pub install-answer-requires-clause-later : goal.install-answer-requires-clause-later
install-answer-requires-clause-later g c =
    let past = c.take-oklogd.result.past in
    rw (last_stays log_grant g.N.Numbered.launcher c.args.service c.args.seat.now.seen past (subst (λ n. GrowsBy by_entry n c.args.seat.now.seen past) c.requires.launcher c.take-oklogd.ensures.grows) c.launched.ensures) c.requires.later

pub give-requires-clause-adds : goal.give-requires-clause-adds
give-requires-clause-adds g c = adds_own c.take-oklogd.result.holder c.take-oklogd.result.past c.install-answer.new.self.past c.args.seat.now c.take-oklogd.new.seat c.take-oklogd.ensures.seat c.take-oklogd.ensures.holder c.install-answer.ensures.adds

pub returns-clause-ok : goal.returns-clause-ok
returns-clause-ok g c = ok_launches c.install-answer.result log_grant (event.Install c.args.service c.args.incarnation) c.take-oklogd.result.holder c.take-oklogd.result.past c.install-answer.new.self.past c.args.seat.now c.take-oklogd.new.seat c.give.new.seat (record { grows = c.take-oklogd.ensures.grows; took = c.take-oklogd.ensures.seat; holder = c.take-oklogd.ensures.holder; free = c.requires.free; gave = c.give.ensures.seat }) (stays log_grant g.N.Numbered.launcher c.args.seat.now.number c.args.seat.now.seen c.take-oklogd.result.past c.take-oklogd.ensures.grows c.requires.launcher c.launched.ensures)
    (on_ok_weaker c.install-answer.result (ap (λ (x : HeldLog). x.past)) c.install-answer.ensures.ok)

pub returns-clause-err : goal.returns-clause-err
returns-clause-err g c = err_launches c.install-answer.result log_grant c.take-oklogd.result.holder c.take-oklogd.result.past c.install-answer.new.self.past c.args.seat.now c.take-oklogd.new.seat c.give.new.seat (record { grows = c.take-oklogd.ensures.grows; took = c.take-oklogd.ensures.seat; holder = c.take-oklogd.ensures.holder; free = c.requires.free; gave = c.give.ensures.seat }) (stays log_grant g.N.Numbered.launcher c.args.seat.now.number c.args.seat.now.seen c.take-oklogd.result.past c.take-oklogd.ensures.grows c.requires.launcher c.launched.ensures)
    (on_err_weaker c.install-answer.result (ap (λ (x : HeldLog). x.past)) c.install-answer.ensures.err)
