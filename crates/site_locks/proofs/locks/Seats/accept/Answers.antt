use Rattle.site_locks.proofs.Sitting.{okd_unturned, okd_turned}
use Rattle.site_locks.proofs.locks.Seats.accept.Goals as goal

pub returns-in_err-make_room-clause-err : goal.returns-in_err-make_room-clause-err
returns-in_err-make_room-clause-err g c = rw (← c.self.view_is) (okd_unturned g.J.Site.ids c.self.inside.number c.self.inside.okd c.self.inside.proxies.items c.self.inside.pubd c.self.inside.oklogd c.self.inside.board c.self.inside.own.past c.self.inside.spare c.self.invariant.0 _ c.make_room.new.self.past c.make_room.ensures.past)

pub returns-in_err-copy-clause-err : goal.returns-in_err-copy-clause-err
returns-in_err-copy-clause-err g c = rw (← c.self.view_is) (okd_unturned g.J.Site.ids c.self.inside.number c.self.inside.okd c.self.inside.proxies.items c.self.inside.pubd c.self.inside.oklogd c.self.inside.board c.self.inside.own.past c.self.inside.spare c.self.invariant.0 _ c.make_room.new.self.past c.make_room.ensures.past)

pub returns-in_err-way-clause-err : goal.returns-in_err-way-clause-err
returns-in_err-way-clause-err g c = rw (← c.self.view_is) (okd_turned g.J.Site.ids c.self.inside.number c.self.inside.okd c.self.inside.proxies.items c.self.inside.pubd c.self.inside.oklogd c.self.inside.board c.self.inside.own.past c.self.inside.spare c.self.invariant.0 _ c.in_err-way.ensures.err.0 c.accept.new.seat c.make_room.new.self.past c.in_err-way.ensures.err.1 c.make_room.ensures.past)
