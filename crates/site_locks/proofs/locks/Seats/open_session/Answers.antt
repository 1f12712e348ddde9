use Rattle.std.proofs.Common.{rules, ◌∙◌, ℕ, ◌<◌, List, ◌∷◌, length, sym, ap, subst}
use Rattle.okws_base.specs.declared.journal.Entry.{Entry}
use Rattle.okws_plan.specs.declared.event.ProxyEvent.{ProxyEvent}
use Rattle.okws_plan.specs.declared.event.ProxyEvent.TheVariants as event
use Rattle.monitor_model.specs.Seen.{proxy_past}
use Rattle.monitor_model.specs.declared.record.Own.TheVariants as own
use Rattle.named_columns.specs.Asked.{IsInstalledAt}
use Rattle.site_locks.proofs.Sitting.{proxy_unturned}
use Rattle.site_locks.specs.Sat.{LockIds, Sat}
use Rattle.site_locks.proofs.Placing.{within, there, seen_there, moved_there, enters_there, turned_there, entered_moves, seen_moves}
use Rattle.site_locks.proofs.locks.Seats.open_session.Goals as goal

pub returns-in_err-make_room-clause-err : goal.returns-in_err-make_room-clause-err
returns-in_err-make_room-clause-err g c = rw (← c.self.view_is) (proxy_unturned g.J.Site.ids c.self.inside.number c.self.inside.okd c.self.inside.proxies.items c.self.inside.pubd c.self.inside.oklogd c.self.inside.board c.self.inside.own.past c.self.inside.spare c.self.invariant.0 _ c.args.proxy c.make_room.new.self.past c.make_room.ensures.past)

pub index_mut-seat-requires : goal.index_mut-seat-requires
index_mut-seat-requires g c =
    let l : c.args.proxy < length c.self.inside.proxies.items = within g.J.Site.ids c.self.inside.number c.self.inside.okd c.self.inside.proxies.items c.self.inside.pubd c.self.inside.oklogd c.self.inside.board c.self.inside.own.past c.self.inside.spare c.self.invariant.0 c.locks.inside.proxies.items (length g.N.Numbered.site.proxies) (ap (λ (x : LockIds). x.proxies) c.locks.invariant.ids_are) c.locks.invariant.declared c.args.proxy c.requires.proxy in
    search rules

pub open_session-requires-clause-lock : goal.open_session-requires-clause-lock
open_session-requires-clause-lock g c = (there g.J.Site.ids c.self.inside.number c.self.inside.okd c.self.inside.proxies.items c.self.inside.pubd c.self.inside.oklogd c.self.inside.board c.self.inside.own.past c.self.inside.spare c.self.invariant.0 c.locks.inside.proxies.items (length g.N.Numbered.site.proxies) (ap (λ (x : LockIds). x.proxies) c.locks.invariant.ids_are) c.locks.invariant.declared c.args.proxy c.requires.proxy c.index_mut-seat.result.now c.index-turn.result.now c.index_mut-seat.ensures.value c.index-turn.ensures).lock_is

pub open_session-requires-clause-free : goal.open_session-requires-clause-free
open_session-requires-clause-free g c = (there g.J.Site.ids c.self.inside.number c.self.inside.okd c.self.inside.proxies.items c.self.inside.pubd c.self.inside.oklogd c.self.inside.board c.self.inside.own.past c.self.inside.spare c.self.invariant.0 c.locks.inside.proxies.items (length g.N.Numbered.site.proxies) (ap (λ (x : LockIds). x.proxies) c.locks.invariant.ids_are) c.locks.invariant.declared c.args.proxy c.requires.proxy c.index_mut-seat.result.now c.index-turn.result.now c.index_mut-seat.ensures.value c.index-turn.ensures).at.free

pub open_session-requires-clause-installed : goal.open_session-requires-clause-installed
open_session-requires-clause-installed g c =
    let seat = c.index_mut-seat.result.now in
    let C = g.N.Numbered.site in
    subst (λ (l : ℕ). IsInstalledAt C l seat.seen c.args.service c.args.incarnation) (sym (there g.J.Site.ids c.self.inside.number c.self.inside.okd c.self.inside.proxies.items c.self.inside.pubd c.self.inside.oklogd c.self.inside.board c.self.inside.own.past c.self.inside.spare c.self.invariant.0 c.locks.inside.proxies.items (length g.N.Numbered.site.proxies) (ap (λ (x : LockIds). x.proxies) c.locks.invariant.ids_are) c.locks.invariant.declared c.args.proxy c.requires.proxy seat c.index-turn.result.now c.index_mut-seat.ensures.value c.index-turn.ensures).at.label_is)
    (subst (λ (J : List (Entry ProxyEvent)). IsInstalledAt C c.args.proxy J c.args.service c.args.incarnation) (ap (λ (x : Sat). proxy_past x.proxies c.args.proxy) (sym c.self.view_is) ∙ seen_there g.J.Site.ids c.self.inside.number c.self.inside.okd c.self.inside.proxies.items c.self.inside.pubd c.self.inside.oklogd c.self.inside.board c.self.inside.own.past c.self.inside.spare c.self.invariant.0 c.locks.inside.proxies.items (length g.N.Numbered.site.proxies) (ap (λ (x : LockIds). x.proxies) c.locks.invariant.ids_are) c.locks.invariant.declared c.args.proxy c.requires.proxy seat c.index_mut-seat.ensures.value) c.requires.installed)

pub invariant_of-self-in_err-verdict : goal.invariant_of-self-in_err-verdict
invariant_of-self-in_err-verdict g c = (
  moved_there g.J.Site.ids c.self.inside.number c.self.inside.okd c.self.inside.proxies.items c.self.inside.pubd c.self.inside.oklogd c.self.inside.board c.self.inside.own.past c.self.inside.spare c.self.invariant.0 c.locks.inside.proxies.items (length g.N.Numbered.site.proxies) (ap (λ (x : LockIds). x.proxies) c.locks.invariant.ids_are) c.locks.invariant.declared c.args.proxy c.requires.proxy c.index_mut-seat.result.now c.open_session.new.seat c.index-turn.result.now c.index_mut-seat.ensures.value c.index-turn.ensures (seen_moves c.in_err-verdict.ensures.err.0 c.index_mut-seat.result.now c.open_session.new.seat c.in_err-verdict.ensures.err.1),
  search rules,
)

pub returns-in_err-verdict-clause-err : goal.returns-in_err-verdict-clause-err
returns-in_err-verdict-clause-err g c = rw (← c.self.view_is) (turned_there g.J.Site.ids c.self.inside.number c.self.inside.okd c.self.inside.proxies.items c.self.inside.pubd c.self.inside.oklogd c.self.inside.board c.self.inside.own.past c.self.inside.spare c.self.invariant.0 c.locks.inside.proxies.items (length g.N.Numbered.site.proxies) (ap (λ (x : LockIds). x.proxies) c.locks.invariant.ids_are) c.locks.invariant.declared c.args.proxy c.requires.proxy _ c.index_mut-seat.result.now c.open_session.new.seat c.index-turn.result.now c.in_err-verdict.ensures.err.0 c.make_room.new.self.past c.index_mut-seat.ensures.value c.index-turn.ensures c.in_err-verdict.ensures.err.1 c.make_room.ensures.past)

pub invariant_of-self-2 : goal.invariant_of-self-2
invariant_of-self-2 g c = (
  moved_there g.J.Site.ids c.self.inside.number c.self.inside.okd c.self.inside.proxies.items c.self.inside.pubd c.self.inside.oklogd c.self.inside.board c.self.inside.own.past c.self.inside.spare c.self.invariant.0 c.locks.inside.proxies.items (length g.N.Numbered.site.proxies) (ap (λ (x : LockIds). x.proxies) c.locks.invariant.ids_are) c.locks.invariant.declared c.args.proxy c.requires.proxy c.index_mut-seat.result.now c.open_session.new.seat c.index-turn.result.now c.index_mut-seat.ensures.value c.index-turn.ensures (entered_moves (event.Open c.args.service c.args.incarnation c.args.shown) c.in_ok-verdict.ensures.ok.0 c.index_mut-seat.result.now c.open_session.new.seat c.in_ok-verdict.ensures.ok.2),
  search rules,
)

pub returns-clause-ok : goal.returns-clause-ok
returns-clause-ok g c = rw (← c.self.view_is) (c.in_ok-verdict.ensures.ok.0, c.in_ok-verdict.ensures.ok.1, enters_there g.J.Site.ids c.self.inside.number c.self.inside.okd c.self.inside.proxies.items c.self.inside.pubd c.self.inside.oklogd c.self.inside.board (own.Proxy c.args.proxy (event.Open c.args.service c.args.incarnation c.args.shown) ∷ c.self.inside.own.past) c.self.inside.spare c.self.invariant.0 c.locks.inside.proxies.items (length g.N.Numbered.site.proxies) (ap (λ (x : LockIds). x.proxies) c.locks.invariant.ids_are) c.locks.invariant.declared c.args.proxy c.requires.proxy c.index_mut-seat.result.now c.open_session.new.seat c.index-turn.result.now (event.Open c.args.service c.args.incarnation c.args.shown) c.in_ok-verdict.ensures.ok.0 c.enter.new.self.past c.index_mut-seat.ensures.value c.index-turn.ensures c.in_ok-verdict.ensures.ok.2 (c.enter.ensures.past ∙ ap (λ l. own.Proxy c.args.proxy (event.Open c.args.service c.args.incarnation c.args.shown) ∷ l) c.make_room.ensures.past))
