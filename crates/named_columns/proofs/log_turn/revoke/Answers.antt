use Rattle.okws_plan.specs.declared.event.LogEvent.TheVariants as event
use Rattle.monitor_model.specs.Standing.{log_grant}
use Rattle.named_columns.proofs.Stays.{stays}
use Rattle.named_columns.proofs.Turning.{adds_own, any_enters}
use Rattle.named_columns.proofs.log_turn.revoke.Goals as goal

pub give-requires-clause-adds : goal.give-requires-clause-adds
give-requires-clause-adds g c = adds_own c.take-oklogd.result.holder c.take-oklogd.result.past c.end_standing-standing.new.oklogd.past c.args.seat.now c.take-oklogd.new.seat c.take-oklogd.ensures.seat c.take-oklogd.ensures.holder c.end_standing-standing.ensures.adds

pub returns : goal.returns
returns g c = (
  c.take-oklogd.result.past,
  stays log_grant g.N.Numbered.launcher c.args.seat.now.number c.args.seat.now.seen c.take-oklogd.result.past c.take-oklogd.ensures.grows c.requires.launcher c.launched.ensures,
  c.end_standing-standing.ensures.was,
  any_enters (λ k. event.Revoke c.args.service k) c.end_standing-standing.result c.take-oklogd.result.holder c.take-oklogd.result.past c.end_standing-standing.new.oklogd.past c.args.seat.now c.take-oklogd.new.seat c.give.new.seat
      (record { grows = c.take-oklogd.ensures.grows; took = c.take-oklogd.ensures.seat; holder = c.take-oklogd.ensures.holder; free = c.requires.free; gave = c.give.ensures.seat }) c.end_standing-standing.ensures.past,
)
