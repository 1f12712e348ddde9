use Rattle.std.proofs.Common.{rules, ◌≡◌, ◌∙◌, ◌<◌, length, ap, refl, sym, subst}
use Rattle.std.specs.Prelude.{None}
use Rattle.std.proofs.lemmas.Result.{on_ok_weaker, on_err_weaker}
use Rattle.okws_base.specs.Past.{standing_by, last_by}
use Rattle.okws_plan.specs.declared.event.ProxyEvent.TheVariants as event
use Rattle.monitor_model.specs.Seen.{proxy_past}
use Rattle.monitor_model.specs.Standing.{proxy_grant}
use Rattle.token_core.specs.Token.{token_of}
use Rattle.named_columns.specs.Turns.{Stays}
use Rattle.site_locks.specs.Sat.{LockIds, Sat}
use Rattle.site_locks.proofs.Placing.{within, there, seen_there, moved_there, enters_there, sees_there, of_outcome, entered_moves, seen_moves}
use Rattle.site_locks.proofs.locks.Seats.install_at_proxy.Goals as goal

pub index_mut-seat-requires : goal.index_mut-seat-requires
index_mut-seat-requires g c =
    let l : c.args.proxy < length c.self.inside.proxies.items = within g.J.Site.ids c.self.inside.number c.self.inside.okd c.self.inside.proxies.items c.self.inside.pubd c.self.inside.oklogd c.self.inside.board c.self.inside.own.past c.self.inside.spare c.self.invariant.0 c.locks.inside.proxies.items (length g.N.Numbered.site.proxies) (ap (λ (x : LockIds). x.proxies) c.locks.invariant.ids_are) c.locks.invariant.declared c.args.proxy c.requires.proxy in
    search rules

pub install-requires-clause-lock : goal.install-requires-clause-lock
install-requires-clause-lock g c = (there g.J.Site.ids c.self.inside.number c.self.inside.okd c.self.inside.proxies.items c.self.inside.pubd c.self.inside.oklogd c.self.inside.board c.self.inside.own.past c.self.inside.spare c.self.invariant.0 c.locks.inside.proxies.items (length g.N.Numbered.site.proxies) (ap (λ (x : LockIds). x.proxies) c.locks.invariant.ids_are) c.locks.invariant.declared c.args.proxy c.requires.proxy c.index_mut-seat.result.now c.index-turn.result.now c.index_mut-seat.ensures.value c.index-turn.ensures).lock_is

pub install-requires-clause-free : goal.install-requires-clause-free
install-requires-clause-free g c = (there g.J.Site.ids c.self.inside.number c.self.inside.okd c.self.inside.proxies.items c.self.inside.pubd c.self.inside.oklogd c.self.inside.board c.self.inside.own.past c.self.inside.spare c.self.invariant.0 c.locks.inside.proxies.items (length g.N.Numbered.site.proxies) (ap (λ (x : LockIds). x.proxies) c.locks.invariant.ids_are) c.locks.invariant.declared c.args.proxy c.requires.proxy c.index_mut-seat.result.now c.index-turn.result.now c.index_mut-seat.ensures.value c.index-turn.ensures).at.free

pub install-requires-clause-launcher : goal.install-requires-clause-launcher
install-requires-clause-launcher g c = (there g.J.Site.ids c.self.inside.number c.self.inside.okd c.self.inside.proxies.items c.self.inside.pubd c.self.inside.oklogd c.self.inside.board c.self.inside.own.past c.self.inside.spare c.self.invariant.0 c.locks.inside.proxies.items (length g.N.Numbered.site.proxies) (ap (λ (x : LockIds). x.proxies) c.locks.invariant.ids_are) c.locks.invariant.declared c.args.proxy c.requires.proxy c.index_mut-seat.result.now c.index-turn.result.now c.index_mut-seat.ensures.value c.index-turn.ensures).at.number_is ∙ (ap (λ (x : Sat). x.number) c.self.view_is ∙ c.requires.launcher)

pub install-requires-clause-later : goal.install-requires-clause-later
install-requires-clause-later g c = subst (λ J. last_by proxy_grant J c.args.service < c.args.incarnation) (ap (λ (x : Sat). proxy_past x.proxies c.args.proxy) (sym c.self.view_is) ∙ seen_there g.J.Site.ids c.self.inside.number c.self.inside.okd c.self.inside.proxies.items c.self.inside.pubd c.self.inside.oklogd c.self.inside.board c.self.inside.own.past c.self.inside.spare c.self.invariant.0 c.locks.inside.proxies.items (length g.N.Numbered.site.proxies) (ap (λ (x : LockIds). x.proxies) c.locks.invariant.ids_are) c.locks.invariant.declared c.args.proxy c.requires.proxy c.index_mut-seat.result.now c.index_mut-seat.ensures.value) c.requires.later

pub install-requires-clause-vacant : goal.install-requires-clause-vacant
install-requires-clause-vacant g c = subst (λ J. standing_by proxy_grant J c.args.service ≡ None) (ap (λ (x : Sat). proxy_past x.proxies c.args.proxy) (sym c.self.view_is) ∙ seen_there g.J.Site.ids c.self.inside.number c.self.inside.okd c.self.inside.proxies.items c.self.inside.pubd c.self.inside.oklogd c.self.inside.board c.self.inside.own.past c.self.inside.spare c.self.invariant.0 c.locks.inside.proxies.items (length g.N.Numbered.site.proxies) (ap (λ (x : LockIds). x.proxies) c.locks.invariant.ids_are) c.locks.invariant.declared c.args.proxy c.requires.proxy c.index_mut-seat.result.now c.index_mut-seat.ensures.value) c.requires.vacant

pub install-requires-clause-token : goal.install-requires-clause-token
install-requires-clause-token g c = subst (λ n. c.args.token ≡ token_of g.N.Numbered.run_seed c.args.service c.args.incarnation n) (sym (there g.J.Site.ids c.self.inside.number c.self.inside.okd c.self.inside.proxies.items c.self.inside.pubd c.self.inside.oklogd c.self.inside.board c.self.inside.own.past c.self.inside.spare c.self.invariant.0 c.locks.inside.proxies.items (length g.N.Numbered.site.proxies) (ap (λ (x : LockIds). x.proxies) c.locks.invariant.ids_are) c.locks.invariant.declared c.args.proxy c.requires.proxy c.index_mut-seat.result.now c.index-turn.result.now c.index_mut-seat.ensures.value c.index-turn.ensures).at.label_is) c.requires.token

pub invariant_of-self : goal.invariant_of-self
invariant_of-self g c = (
  moved_there g.J.Site.ids c.self.inside.number c.self.inside.okd c.self.inside.proxies.items c.self.inside.pubd c.self.inside.oklogd c.self.inside.board c.self.inside.own.past c.self.inside.spare c.self.invariant.0 c.locks.inside.proxies.items (length g.N.Numbered.site.proxies) (ap (λ (x : LockIds). x.proxies) c.locks.invariant.ids_are) c.locks.invariant.declared c.args.proxy c.requires.proxy c.index_mut-seat.result.now c.install.new.seat c.index-turn.result.now c.index_mut-seat.ensures.value c.index-turn.ensures
      (of_outcome c.install.result _ _ _ c.install.ensures.ok c.install.ensures.err (λ q. entered_moves (event.Install c.args.service c.args.incarnation c.args.token) q.0 c.index_mut-seat.result.now c.install.new.seat q.2) (λ q. seen_moves q.0 c.index_mut-seat.result.now c.install.new.seat q.2)),
  c.self.invariant.1,
)

pub returns-clause-ok : goal.returns-clause-ok
returns-clause-ok g c = rw (← c.self.view_is) (on_ok_weaker c.install.result (λ q. (q.0, subst (λ J. Stays proxy_grant J q.0) (sym (seen_there g.J.Site.ids c.self.inside.number c.self.inside.okd c.self.inside.proxies.items c.self.inside.pubd c.self.inside.oklogd c.self.inside.board c.self.inside.own.past c.self.inside.spare c.self.invariant.0 c.locks.inside.proxies.items (length g.N.Numbered.site.proxies) (ap (λ (x : LockIds). x.proxies) c.locks.invariant.ids_are) c.locks.invariant.declared c.args.proxy c.requires.proxy c.index_mut-seat.result.now c.index_mut-seat.ensures.value)) q.1, enters_there g.J.Site.ids c.self.inside.number c.self.inside.okd c.self.inside.proxies.items c.self.inside.pubd c.self.inside.oklogd c.self.inside.board c.self.inside.own.past c.self.inside.spare c.self.invariant.0 c.locks.inside.proxies.items (length g.N.Numbered.site.proxies) (ap (λ (x : LockIds). x.proxies) c.locks.invariant.ids_are) c.locks.invariant.declared c.args.proxy c.requires.proxy c.index_mut-seat.result.now c.install.new.seat c.index-turn.result.now (event.Install c.args.service c.args.incarnation c.args.token) q.0 c.self.inside.own.past c.index_mut-seat.ensures.value c.index-turn.ensures q.2 refl)) c.install.ensures.ok)

pub returns-clause-err : goal.returns-clause-err
returns-clause-err g c = rw (← c.self.view_is) (on_err_weaker c.install.result (λ q. (q.0, subst (λ J. Stays proxy_grant J q.0) (sym (seen_there g.J.Site.ids c.self.inside.number c.self.inside.okd c.self.inside.proxies.items c.self.inside.pubd c.self.inside.oklogd c.self.inside.board c.self.inside.own.past c.self.inside.spare c.self.invariant.0 c.locks.inside.proxies.items (length g.N.Numbered.site.proxies) (ap (λ (x : LockIds). x.proxies) c.locks.invariant.ids_are) c.locks.invariant.declared c.args.proxy c.requires.proxy c.index_mut-seat.result.now c.index_mut-seat.ensures.value)) q.1, sees_there g.J.Site.ids c.self.inside.number c.self.inside.okd c.self.inside.proxies.items c.self.inside.pubd c.self.inside.oklogd c.self.inside.board c.self.inside.own.past c.self.inside.spare c.self.invariant.0 c.locks.inside.proxies.items (length g.N.Numbered.site.proxies) (ap (λ (x : LockIds). x.proxies) c.locks.invariant.ids_are) c.locks.invariant.declared c.args.proxy c.requires.proxy c.index_mut-seat.result.now c.install.new.seat c.index-turn.result.now q.0 c.self.inside.own.past c.index_mut-seat.ensures.value c.index-turn.ensures q.2 refl)) c.install.ensures.err)
