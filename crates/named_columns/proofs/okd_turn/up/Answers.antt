use Rattle.std.proofs.Common.{ap}
use Rattle.std.proofs.lemmas.Result.{on_ok_weaker, on_err_weaker}
use Rattle.okws_plan.specs.declared.event.OkdEvent.{OkdEvent}
use Rattle.okws_plan.specs.declared.event.OkdEvent.TheVariants as event
use Rattle.monitor_model.specs.Standing.{okd_grant}
use Rattle.named_columns.specs.Held.{Held}
use Rattle.named_columns.proofs.Stays.{stays}
use Rattle.named_columns.proofs.Turning.{adds_own, ok_launches, err_launches}
use Rattle.named_columns.proofs.okd_turn.up.Goals as goal

pub give-requires-clause-adds : goal.give-requires-clause-adds
give-requires-clause-adds g c = adds_own c.take-okd.result.holder c.take-okd.result.past c.up-answer.new.self.past c.args.seat.now c.take-okd.new.seat c.take-okd.ensures.seat c.take-okd.ensures.holder c.up-answer.ensures.adds

pub returns-clause-ok : goal.returns-clause-ok
returns-clause-ok g c = ok_launches c.up-answer.result okd_grant (event.Up c.args.service c.args.incarnation) c.take-okd.result.holder c.take-okd.result.past c.up-answer.new.self.past c.args.seat.now c.take-okd.new.seat c.give.new.seat (record { grows = c.take-okd.ensures.grows; took = c.take-okd.ensures.seat; holder = c.take-okd.ensures.holder; free = c.requires.free; gave = c.give.ensures.seat }) (stays okd_grant g.N.Numbered.launcher c.args.seat.now.number c.args.seat.now.seen c.take-okd.result.past c.take-okd.ensures.grows c.requires.launcher c.launched.ensures.launched)
    (on_ok_weaker c.up-answer.result (ap (λ (x : Held OkdEvent). x.past)) c.up-answer.ensures.ok)

pub returns-clause-err : goal.returns-clause-err
returns-clause-err g c = err_launches c.up-answer.result okd_grant c.take-okd.result.holder c.take-okd.result.past c.up-answer.new.self.past c.args.seat.now c.take-okd.new.seat c.give.new.seat (record { grows = c.take-okd.ensures.grows; took = c.take-okd.ensures.seat; holder = c.take-okd.ensures.holder; free = c.requires.free; gave = c.give.ensures.seat }) (stays okd_grant g.N.Numbered.launcher c.args.seat.now.number c.args.seat.now.seen c.take-okd.result.past c.take-okd.ensures.grows c.requires.launcher c.launched.ensures.launched)
    (on_err_weaker c.up-answer.result (ap (λ (x : Held OkdEvent). x.past)) c.up-answer.ensures.err)
