use Rattle.std.proofs.Common.{subst, sym}
use Rattle.monitor_model.specs.Installed.{HasStood}
use Rattle.monitor_model.specs.Standing.{pubd_grant}
use Rattle.site_locks.specs.Sat.{Sat}
use Rattle.site_locks.proofs.Sitting.{pubd_unturned, pubd_turned}
use Rattle.site_locks.proofs.locks.Seats.drain.Goals as goal

pub drain-requires-clause-installed : goal.drain-requires-clause-installed
drain-requires-clause-installed g c = subst (λ (x : Sat). HasStood pubd_grant x.pubd c.args.service c.args.incarnation) (sym c.self.view_is) c.requires.installed

pub returns-in_err-make_room-clause-err : goal.returns-in_err-make_room-clause-err
returns-in_err-make_room-clause-err g c = rw (← c.self.view_is) (pubd_unturned g.J.Site.ids c.self.inside.number c.self.inside.okd c.self.inside.proxies.items c.self.inside.pubd c.self.inside.oklogd c.self.inside.board c.self.inside.own.past c.self.inside.spare c.self.invariant.0 _ c.make_room.new.self.past c.make_room.ensures.past)

pub returns-in_err-pushes-clause-err : goal.returns-in_err-pushes-clause-err
returns-in_err-pushes-clause-err g c = rw (← c.self.view_is) (pubd_turned g.J.Site.ids c.self.inside.number c.self.inside.okd c.self.inside.proxies.items c.self.inside.pubd c.self.inside.oklogd c.self.inside.board c.self.inside.own.past c.self.inside.spare c.self.invariant.0 _ c.in_err-pushes.ensures.err.0 c.drain.new.seat c.make_room.new.self.past c.in_err-pushes.ensures.err.1 c.make_room.ensures.past)
