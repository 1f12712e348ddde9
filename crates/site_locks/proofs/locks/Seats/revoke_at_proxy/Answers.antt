use Rattle.std.proofs.Common.{rules, ◌∙◌, ◌<◌, length, ap, sym, subst}
use Rattle.okws_plan.specs.declared.event.ProxyEvent.TheVariants as event
use Rattle.monitor_model.specs.Standing.{proxy_grant}
use Rattle.named_columns.specs.Turns.{Stays}
use Rattle.site_locks.specs.Sat.{LockIds, Sat}
use Rattle.site_locks.proofs.Placing.{within, there, seen_there, moved_there, revokes_there, any_moves}
use Rattle.site_locks.proofs.locks.Seats.revoke_at_proxy.Goals as goal

pub index_mut-seat-requires : goal.index_mut-seat-requires
index_mut-seat-requires g c =
    let l : c.args.proxy < length c.self.inside.proxies.items = within g.J.Site.ids c.self.inside.number c.self.inside.okd c.self.inside.proxies.items c.self.inside.pubd c.self.inside.oklogd c.self.inside.board c.self.inside.own.past c.self.inside.spare c.self.invariant.0 c.locks.inside.proxies.items (length g.N.Numbered.site.proxies) (ap (λ (x : LockIds). x.proxies) c.locks.invariant.ids_are) c.locks.invariant.declared c.args.proxy c.requires.proxy in
    search rules

pub revoke-requires-clause-lock : goal.revoke-requires-clause-lock
revoke-requires-clause-lock g c = (there g.J.Site.ids c.self.inside.number c.self.inside.okd c.self.inside.proxies.items c.self.inside.pubd c.self.inside.oklogd c.self.inside.board c.self.inside.own.past c.self.inside.spare c.self.invariant.0 c.locks.inside.proxies.items (length g.N.Numbered.site.proxies) (ap (λ (x : LockIds). x.proxies) c.locks.invariant.ids_are) c.locks.invariant.declared c.args.proxy c.requires.proxy c.index_mut-seat.result.now c.index-turn.result.now c.index_mut-seat.ensures.value c.index-turn.ensures).lock_is

pub revoke-requires-clause-free : goal.revoke-requires-clause-free
revoke-requires-clause-free g c = (there g.J.Site.ids c.self.inside.number c.self.inside.okd c.self.inside.proxies.items c.self.inside.pubd c.self.inside.oklogd c.self.inside.board c.self.inside.own.past c.self.inside.spare c.self.invariant.0 c.locks.inside.proxies.items (length g.N.Numbered.site.proxies) (ap (λ (x : LockIds). x.proxies) c.locks.invariant.ids_are) c.locks.invariant.declared c.args.proxy c.requires.proxy c.index_mut-seat.result.now c.index-turn.result.now c.index_mut-seat.ensures.value c.index-turn.ensures).at.free

pub revoke-requires-clause-launcher : goal.revoke-requires-clause-launcher
revoke-requires-clause-launcher g c = (there g.J.Site.ids c.self.inside.number c.self.inside.okd c.self.inside.proxies.items c.self.inside.pubd c.self.inside.oklogd c.self.inside.board c.self.inside.own.past c.self.inside.spare c.self.invariant.0 c.locks.inside.proxies.items (length g.N.Numbered.site.proxies) (ap (λ (x : LockIds). x.proxies) c.locks.invariant.ids_are) c.locks.invariant.declared c.args.proxy c.requires.proxy c.index_mut-seat.result.now c.index-turn.result.now c.index_mut-seat.ensures.value c.index-turn.ensures).at.number_is ∙ (ap (λ (x : Sat). x.number) c.self.view_is ∙ c.requires.launcher)

pub invariant_of-self : goal.invariant_of-self
invariant_of-self g c = (
  moved_there g.J.Site.ids c.self.inside.number c.self.inside.okd c.self.inside.proxies.items c.self.inside.pubd c.self.inside.oklogd c.self.inside.board c.self.inside.own.past c.self.inside.spare c.self.invariant.0 c.locks.inside.proxies.items (length g.N.Numbered.site.proxies) (ap (λ (x : LockIds). x.proxies) c.locks.invariant.ids_are) c.locks.invariant.declared c.args.proxy c.requires.proxy c.index_mut-seat.result.now c.revoke.new.seat c.index-turn.result.now c.index_mut-seat.ensures.value c.index-turn.ensures (any_moves (λ k. event.Revoke c.args.service k) c.revoke.result c.revoke.ensures.0 c.index_mut-seat.result.now c.revoke.new.seat c.revoke.ensures.3),
  c.self.invariant.1,
)

pub returns : goal.returns
returns g c = rw (← c.self.view_is) (c.revoke.ensures.0, subst (λ J. Stays proxy_grant J c.revoke.ensures.0) (sym (seen_there g.J.Site.ids c.self.inside.number c.self.inside.okd c.self.inside.proxies.items c.self.inside.pubd c.self.inside.oklogd c.self.inside.board c.self.inside.own.past c.self.inside.spare c.self.invariant.0 c.locks.inside.proxies.items (length g.N.Numbered.site.proxies) (ap (λ (x : LockIds). x.proxies) c.locks.invariant.ids_are) c.locks.invariant.declared c.args.proxy c.requires.proxy c.index_mut-seat.result.now c.index_mut-seat.ensures.value)) c.revoke.ensures.1, c.revoke.ensures.2, revokes_there g.J.Site.ids c.self.inside.number c.self.inside.okd c.self.inside.proxies.items c.self.inside.pubd c.self.inside.oklogd c.self.inside.board c.self.inside.own.past c.self.inside.spare c.self.invariant.0 c.locks.inside.proxies.items (length g.N.Numbered.site.proxies) (ap (λ (x : LockIds). x.proxies) c.locks.invariant.ids_are) c.locks.invariant.declared c.args.proxy c.requires.proxy c.index_mut-seat.result.now c.revoke.new.seat c.index-turn.result.now (λ k. event.Revoke c.args.service k) c.revoke.result c.revoke.ensures.0 c.index_mut-seat.ensures.value c.index-turn.ensures c.revoke.ensures.3)
