use Rattle.okws_plan.specs.declared.event.PubdEvent.TheVariants as event
use Rattle.monitor_model.specs.Standing.{pubd_grant}
use Rattle.named_columns.proofs.Stays.{stays}
use Rattle.named_columns.proofs.Turning.{adds_own, any_enters}
use Rattle.named_columns.proofs.pubd_turn.revoke.Goals as goal

pub give-requires-clause-adds : goal.give-requires-clause-adds
give-requires-clause-adds g c = adds_own c.take-pubd.result.holder c.take-pubd.result.past c.end_standing-standing.new.pubd.past c.args.seat.now c.take-pubd.new.seat c.take-pubd.ensures.seat c.take-pubd.ensures.holder c.end_standing-standing.ensures.adds

pub returns : goal.returns
returns g c = (
  c.take-pubd.result.past,
  stays pubd_grant g.N.Numbered.launcher c.args.seat.now.number c.args.seat.now.seen c.take-pubd.result.past c.take-pubd.ensures.grows c.requires.launcher c.launched.ensures,
  c.end_standing-standing.ensures.was,
  any_enters (λ k. event.Revoke c.args.service k) c.end_standing-standing.result c.take-pubd.result.holder c.take-pubd.result.past c.end_standing-standing.new.pubd.past c.args.seat.now c.take-pubd.new.seat c.give.new.seat
      (record { grows = c.take-pubd.ensures.grows; took = c.take-pubd.ensures.seat; holder = c.take-pubd.ensures.holder; free = c.requires.free; gave = c.give.ensures.seat }) c.end_standing-standing.ensures.past,
)
