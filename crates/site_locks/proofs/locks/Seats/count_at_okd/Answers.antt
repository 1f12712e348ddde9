use Rattle.std.proofs.Common.{[], refl, sym, ap}
use Rattle.okws_base.specs.declared.journal.Entry.{Entry}
use Rattle.okws_plan.specs.declared.event.OkdEvent.{OkdEvent}
use Rattle.turn_lock.specs.Seats.{SeatIs}
use Rattle.site_locks.proofs.Sitting.{okd_sees}
use Rattle.named_columns.proofs.Turning.{sees}
use Rattle.site_locks.proofs.locks.Seats.count_at_okd.Goals as goal

pub give-requires-clause-adds : goal.give-requires-clause-adds
give-requires-clause-adds g c = ([], tt, sym (ap (λ (a : SeatIs (Entry OkdEvent)). a.seen) c.take-okd.ensures.seat))

pub returns : goal.returns
returns g c = rw (← c.self.view_is) (
  c.take-okd.result.past,
  c.accepts-accepted.ensures,
  c.ups-raised.ensures,
  okd_sees g.J.Site.ids c.self.inside.number c.self.inside.okd c.self.inside.proxies.items c.self.inside.pubd c.self.inside.oklogd c.self.inside.board c.self.inside.own.past c.self.inside.spare c.self.invariant.0 c.take-okd.result.past c.give.new.seat c.self.inside.own.past
      (sees c.take-okd.result.holder c.take-okd.result.past c.take-okd.result.past c.self.inside.okd c.take-okd.new.seat c.give.new.seat
      (record { grows = c.take-okd.ensures.grows; took = c.take-okd.ensures.seat; holder = c.take-okd.ensures.holder; free = c.self.invariant.0.okd_at.free; gave = c.give.ensures.seat }) refl)
      refl,
)
