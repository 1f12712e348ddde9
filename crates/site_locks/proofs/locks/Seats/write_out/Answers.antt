use Rattle.std.proofs.Common.{refl, ap}
use Rattle.named_columns.specs.Held.{HeldLog}
use Rattle.site_locks.proofs.Sitting.{log_sees}
use Rattle.named_columns.proofs.Turning.{sees}
use Rattle.site_locks.proofs.locks.Seats.write_out.Goals as goal

pub returns : goal.returns
returns g c = rw (← c.self.view_is) (
  c.take-oklogd.result.past,
  log_sees g.J.Site.ids c.self.inside.number c.self.inside.okd c.self.inside.proxies.items c.self.inside.pubd c.self.inside.oklogd c.self.inside.board c.self.inside.own.past c.self.inside.spare c.self.invariant.0 c.take-oklogd.result.past c.give.new.seat c.self.inside.own.past
      (sees c.take-oklogd.result.holder c.take-oklogd.result.past c.write_out-answer.new.self.past c.self.inside.oklogd c.take-oklogd.new.seat c.give.new.seat
      (record { grows = c.take-oklogd.ensures.grows; took = c.take-oklogd.ensures.seat; holder = c.take-oklogd.ensures.holder; free = c.self.invariant.0.oklogd_at.free; gave = c.give.ensures.seat }) (ap (λ (x : HeldLog). x.past) c.write_out-answer.ensures.same))
      refl,
)
