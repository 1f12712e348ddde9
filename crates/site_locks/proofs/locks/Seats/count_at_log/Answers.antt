use Rattle.std.proofs.Common.{[], refl, sym, ap}
use Rattle.okws_base.specs.declared.journal.Entry.{Entry}
use Rattle.okws_plan.specs.declared.event.LogEvent.{LogEvent}
use Rattle.turn_lock.specs.Seats.{SeatIs}
use Rattle.site_locks.proofs.Sitting.{log_sees}
use Rattle.named_columns.proofs.Turning.{sees}
use Rattle.site_locks.proofs.locks.Seats.count_at_log.Goals as goal

pub give-requires-clause-adds : goal.give-requires-clause-adds
give-requires-clause-adds g c = ([], tt, sym (ap (λ (a : SeatIs (Entry LogEvent)). a.seen) c.take-oklogd.ensures.seat))

pub returns : goal.returns
returns g c = rw (← c.self.view_is) (
  c.take-oklogd.result.past,
  c.logged-lines.ensures,
  log_sees g.J.Site.ids c.self.inside.number c.self.inside.okd c.self.inside.proxies.items c.self.inside.pubd c.self.inside.oklogd c.self.inside.board c.self.inside.own.past c.self.inside.spare c.self.invariant.0 c.take-oklogd.result.past c.give.new.seat c.self.inside.own.past
      (sees c.take-oklogd.result.holder c.take-oklogd.result.past c.take-oklogd.result.past c.self.inside.oklogd c.take-oklogd.new.seat c.give.new.seat
      (record { grows = c.take-oklogd.ensures.grows; took = c.take-oklogd.ensures.seat; holder = c.take-oklogd.ensures.holder; free = c.self.invariant.0.oklogd_at.free; gave = c.give.ensures.seat }) refl)
      refl,
)
