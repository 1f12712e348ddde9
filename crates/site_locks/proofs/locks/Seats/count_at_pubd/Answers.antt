use Rattle.std.proofs.Common.{[], refl, sym, ap}
use Rattle.okws_base.specs.declared.journal.Entry.{Entry}
use Rattle.okws_plan.specs.declared.event.PubdEvent.{PubdEvent}
use Rattle.turn_lock.specs.Seats.{SeatIs}
use Rattle.site_locks.proofs.Sitting.{pubd_sees}
use Rattle.named_columns.proofs.Turning.{sees}
use Rattle.site_locks.proofs.locks.Seats.count_at_pubd.Goals as goal

pub give-requires-clause-adds : goal.give-requires-clause-adds
give-requires-clause-adds g c = ([], tt, sym (ap (λ (a : SeatIs (Entry PubdEvent)). a.seen) c.take-pubd.ensures.seat))

pub returns : goal.returns
returns g c = rw (← c.self.view_is) (
  c.take-pubd.result.past,
  c.publications-published.ensures,
  pubd_sees g.J.Site.ids c.self.inside.number c.self.inside.okd c.self.inside.proxies.items c.self.inside.pubd c.self.inside.oklogd c.self.inside.board c.self.inside.own.past c.self.inside.spare c.self.invariant.0 c.take-pubd.result.past c.give.new.seat c.self.inside.own.past
      (sees c.take-pubd.result.holder c.take-pubd.result.past c.take-pubd.result.past c.self.inside.pubd c.take-pubd.new.seat c.give.new.seat
      (record { grows = c.take-pubd.ensures.grows; took = c.take-pubd.ensures.seat; holder = c.take-pubd.ensures.holder; free = c.self.invariant.0.pubd_at.free; gave = c.give.ensures.seat }) refl)
      refl,
)
