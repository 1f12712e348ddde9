use Rattle.okws_plan.specs.declared.event.ProxyEvent.TheVariants as event
use Rattle.monitor_model.specs.Standing.{proxy_grant}
use Rattle.named_columns.proofs.Stays.{stays}
use Rattle.named_columns.proofs.Turning.{adds_own, any_enters}
use Rattle.named_columns.proofs.proxy_turn.revoke.Goals as goal

pub give-requires-clause-adds : goal.give-requires-clause-adds
give-requires-clause-adds g c = adds_own c.take-proxy.result.holder c.take-proxy.result.past c.end_standing-standing.new.proxy.past c.args.seat.now c.take-proxy.new.seat c.take-proxy.ensures.seat c.take-proxy.ensures.holder c.end_standing-standing.ensures.adds

pub returns : goal.returns
returns g c = (
  c.take-proxy.result.past,
  stays proxy_grant g.N.Numbered.launcher c.args.seat.now.number c.args.seat.now.seen c.take-proxy.result.past c.take-proxy.ensures.grows c.requires.launcher c.launched.ensures.launched,
  c.end_standing-standing.ensures.was,
  any_enters (λ k. event.Revoke c.args.service k) c.end_standing-standing.result c.take-proxy.result.holder c.take-proxy.result.past c.end_standing-standing.new.proxy.past c.args.seat.now c.take-proxy.new.seat c.give.new.seat
      (record { grows = c.take-proxy.ensures.grows; took = c.take-proxy.ensures.seat; holder = c.take-proxy.ensures.holder; free = c.requires.free; gave = c.give.ensures.seat }) c.end_standing-standing.ensures.past,
)
