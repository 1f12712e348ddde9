use Rattle.std.proofs.Common.{subst, sym}
use Rattle.monitor_model.specs.Installed.{HasStood}
use Rattle.monitor_model.specs.Standing.{log_grant}
use Rattle.site_locks.specs.Sat.{Sat}
use Rattle.site_locks.proofs.Sitting.{log_unturned, log_turned}
use Rattle.site_locks.proofs.locks.Seats.log.Goals as goal

pub log-requires-clause-installed : goal.log-requires-clause-installed
log-requires-clause-installed g c = subst (λ (x : Sat). HasStood log_grant x.oklogd c.args.service c.args.incarnation) (sym c.self.view_is) c.requires.installed

pub returns-in_err-make_room-clause-err : goal.returns-in_err-make_room-clause-err
returns-in_err-make_room-clause-err g c = rw (← c.self.view_is) (log_unturned g.J.Site.ids c.self.inside.number c.self.inside.okd c.self.inside.proxies.items c.self.inside.pubd c.self.inside.oklogd c.self.inside.board c.self.inside.own.past c.self.inside.spare c.self.invariant.0 _ c.make_room.new.self.past c.make_room.ensures.past)

pub returns-in_err-copy-clause-err : goal.returns-in_err-copy-clause-err
returns-in_err-copy-clause-err g c = rw (← c.self.view_is) (log_unturned g.J.Site.ids c.self.inside.number c.self.inside.okd c.self.inside.proxies.items c.self.inside.pubd c.self.inside.oklogd c.self.inside.board c.self.inside.own.past c.self.inside.spare c.self.invariant.0 _ c.make_room.new.self.past c.make_room.ensures.past)

pub returns-in_err-answer-clause-err : goal.returns-in_err-answer-clause-err
returns-in_err-answer-clause-err g c = rw (← c.self.view_is) (log_turned g.J.Site.ids c.self.inside.number c.self.inside.okd c.self.inside.proxies.items c.self.inside.pubd c.self.inside.oklogd c.self.inside.board c.self.inside.own.past c.self.inside.spare c.self.invariant.0 _ c.in_err-answer.ensures.err.0 c.log.new.seat c.make_room.new.self.past c.in_err-answer.ensures.err.1 c.make_room.ensures.past)
