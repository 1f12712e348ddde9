use Rattle.okws_plan.specs.declared.event.OkdEvent.TheVariants as event
use Rattle.monitor_model.specs.Standing.{okd_grant}
use Rattle.named_columns.proofs.Stays.{stays}
use Rattle.named_columns.proofs.Turning.{adds_own, any_enters}
use Rattle.named_columns.proofs.okd_turn.down.Goals as goal

pub give-requires-clause-adds : goal.give-requires-clause-adds
give-requires-clause-adds g c = adds_own c.take-okd.result.holder c.take-okd.result.past c.take_down-standing.new.okd.past c.args.seat.now c.take-okd.new.seat c.take-okd.ensures.seat c.take-okd.ensures.holder c.take_down-standing.ensures.adds

pub returns : goal.returns
returns g c = (
  c.take-okd.result.past,
  stays okd_grant g.N.Numbered.launcher c.args.seat.now.number c.args.seat.now.seen c.take-okd.result.past c.take-okd.ensures.grows c.requires.launcher c.launched.ensures.launched,
  c.take_down-standing.ensures.was,
  any_enters (λ k. event.Down c.args.service k) c.take_down-standing.result c.take-okd.result.holder c.take-okd.result.past c.take_down-standing.new.okd.past c.args.seat.now c.take-okd.new.seat c.give.new.seat
      (record { grows = c.take-okd.ensures.grows; took = c.take-okd.ensures.seat; holder = c.take-okd.ensures.holder; free = c.requires.free; gave = c.give.ensures.seat }) c.take_down-standing.ensures.past,
)
