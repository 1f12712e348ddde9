use Rattle.std.proofs.Common.{rules, ◌∙◌, ℕ, ◌<◌, List, ◌∷◌, length, sym, ap, subst}
use Rattle.okws_base.specs.declared.journal.Entry.{Entry}
use Rattle.okws_plan.specs.declared.event.ProxyEvent.{ProxyEvent}
use Rattle.okws_plan.specs.declared.event.ProxyEvent.TheVariants as event
use Rattle.okws_plan.specs.declared.statement.Answer.TheVariants.{Rows}
use Rattle.monitor_model.specs.Seen.{proxy_past}
use Rattle.monitor_model.specs.declared.record.Own.TheVariants as own
use Rattle.named_columns.specs.Asked.{IsInstalledAt}
use Rattle.started_call.specs.Starting.{verdict_of}
use Rattle.named_columns.specs.Calls.{Answered}
use Rattle.site_locks.proofs.Marks.{called, marked}
use Rattle.site_locks.proofs.Sitting.{proxy_unturned}
use Rattle.site_locks.specs.Sat.{LockIds, Sat}
use Rattle.site_locks.proofs.Placing.{within, there, seen_there, moved_there, enters_there, turned_there, entered_moves, seen_moves}
use Rattle.site_locks.proofs.locks.Seats.start.Goals as goal

pub returns-in_err-make_room-clause-err : goal.returns-in_err-make_room-clause-err
returns-in_err-make_room-clause-err g c = rw (← c.self.view_is) (proxy_unturned g.J.Site.ids c.self.inside.number c.self.inside.okd c.self.inside.proxies.items c.self.inside.pubd c.self.inside.oklogd c.self.inside.board c.self.inside.own.past c.self.inside.spare c.self.invariant.0 _ c.args.proxy c.make_room.new.self.past c.make_room.ensures.past)

pub returns-in_err-copy-clause-err : goal.returns-in_err-copy-clause-err
returns-in_err-copy-clause-err g c = rw (← c.self.view_is) (proxy_unturned g.J.Site.ids c.self.inside.number c.self.inside.okd c.self.inside.proxies.items c.self.inside.pubd c.self.inside.oklogd c.self.inside.board c.self.inside.own.past c.self.inside.spare c.self.invariant.0 _ c.args.proxy c.make_room.new.self.past c.make_room.ensures.past)

pub index_mut-seat-requires : goal.index_mut-seat-requires
index_mut-seat-requires g c =
    let l : c.args.proxy < length c.self.inside.proxies.items = within g.J.Site.ids c.self.inside.number c.self.inside.okd c.self.inside.proxies.items c.self.inside.pubd c.self.inside.oklogd c.self.inside.board c.self.inside.own.past c.self.inside.spare c.self.invariant.0 c.locks.inside.proxies.items (length g.N.Numbered.site.proxies) (ap (λ (x : LockIds). x.proxies) c.locks.invariant.ids_are) c.locks.invariant.declared c.args.proxy c.requires.proxy in
    search rules

pub start-requires-clause-lock : goal.start-requires-clause-lock
start-requires-clause-lock g c = (there g.J.Site.ids c.self.inside.number c.self.inside.okd c.self.inside.proxies.items c.self.inside.pubd c.self.inside.oklogd c.self.inside.board c.self.inside.own.past c.self.inside.spare c.self.invariant.0 c.locks.inside.proxies.items (length g.N.Numbered.site.proxies) (ap (λ (x : LockIds). x.proxies) c.locks.invariant.ids_are) c.locks.invariant.declared c.args.proxy c.requires.proxy c.index_mut-seat.result.now c.index-turn.result.now c.index_mut-seat.ensures.value c.index-turn.ensures).lock_is

pub start-requires-clause-free : goal.start-requires-clause-free
start-requires-clause-free g c = (there g.J.Site.ids c.self.inside.number c.self.inside.okd c.self.inside.proxies.items c.self.inside.pubd c.self.inside.oklogd c.self.inside.board c.self.inside.own.past c.self.inside.spare c.self.invariant.0 c.locks.inside.proxies.items (length g.N.Numbered.site.proxies) (ap (λ (x : LockIds). x.proxies) c.locks.invariant.ids_are) c.locks.invariant.declared c.args.proxy c.requires.proxy c.index_mut-seat.result.now c.index-turn.result.now c.index_mut-seat.ensures.value c.index-turn.ensures).at.free

pub start-requires-clause-installed : goal.start-requires-clause-installed
start-requires-clause-installed g c =
    let seat = c.index_mut-seat.result.now in
    let C = g.N.Numbered.site in
    subst (λ (l : ℕ). IsInstalledAt C l seat.seen c.args.call.service c.args.call.incarnation) (sym (there g.J.Site.ids c.self.inside.number c.self.inside.okd c.self.inside.proxies.items c.self.inside.pubd c.self.inside.oklogd c.self.inside.board c.self.inside.own.past c.self.inside.spare c.self.invariant.0 c.locks.inside.proxies.items (length g.N.Numbered.site.proxies) (ap (λ (x : LockIds). x.proxies) c.locks.invariant.ids_are) c.locks.invariant.declared c.args.proxy c.requires.proxy seat c.index-turn.result.now c.index_mut-seat.ensures.value c.index-turn.ensures).at.label_is)
    (subst (λ (J : List (Entry ProxyEvent)). IsInstalledAt C c.args.proxy J c.args.call.service c.args.call.incarnation) (ap (λ (x : Sat). proxy_past x.proxies c.args.proxy) (sym c.self.view_is) ∙ seen_there g.J.Site.ids c.self.inside.number c.self.inside.okd c.self.inside.proxies.items c.self.inside.pubd c.self.inside.oklogd c.self.inside.board c.self.inside.own.past c.self.inside.spare c.self.invariant.0 c.locks.inside.proxies.items (length g.N.Numbered.site.proxies) (ap (λ (x : LockIds). x.proxies) c.locks.invariant.ids_are) c.locks.invariant.declared c.args.proxy c.requires.proxy seat c.index_mut-seat.ensures.value) c.requires.installed)

pub invariant_of-self-in_err-started : goal.invariant_of-self-in_err-started
invariant_of-self-in_err-started g c = (
  moved_there g.J.Site.ids c.self.inside.number c.self.inside.okd c.self.inside.proxies.items c.self.inside.pubd c.self.inside.oklogd c.self.inside.board c.self.inside.own.past c.self.inside.spare c.self.invariant.0 c.locks.inside.proxies.items (length g.N.Numbered.site.proxies) (ap (λ (x : LockIds). x.proxies) c.locks.invariant.ids_are) c.locks.invariant.declared c.args.proxy c.requires.proxy c.index_mut-seat.result.now c.start.new.seat c.index-turn.result.now c.index_mut-seat.ensures.value c.index-turn.ensures (seen_moves c.in_err-started.ensures.err.0 c.index_mut-seat.result.now c.start.new.seat c.in_err-started.ensures.err.1),
  search rules,
)

pub returns-in_err-started-clause-err : goal.returns-in_err-started-clause-err
returns-in_err-started-clause-err g c = rw (← c.self.view_is) (turned_there g.J.Site.ids c.self.inside.number c.self.inside.okd c.self.inside.proxies.items c.self.inside.pubd c.self.inside.oklogd c.self.inside.board c.self.inside.own.past c.self.inside.spare c.self.invariant.0 c.locks.inside.proxies.items (length g.N.Numbered.site.proxies) (ap (λ (x : LockIds). x.proxies) c.locks.invariant.ids_are) c.locks.invariant.declared c.args.proxy c.requires.proxy _ c.index_mut-seat.result.now c.start.new.seat c.index-turn.result.now c.in_err-started.ensures.err.0 c.make_room.new.self.past c.index_mut-seat.ensures.value c.index-turn.ensures c.in_err-started.ensures.err.1 c.make_room.ensures.past)

pub invariant_of-self-2 : goal.invariant_of-self-2
invariant_of-self-2 g c = (
  moved_there g.J.Site.ids c.self.inside.number c.self.inside.okd c.self.inside.proxies.items c.self.inside.pubd c.self.inside.oklogd c.self.inside.board c.self.inside.own.past c.self.inside.spare c.self.invariant.0 c.locks.inside.proxies.items (length g.N.Numbered.site.proxies) (ap (λ (x : LockIds). x.proxies) c.locks.invariant.ids_are) c.locks.invariant.declared c.args.proxy c.requires.proxy c.index_mut-seat.result.now c.start.new.seat c.index-turn.result.now c.index_mut-seat.ensures.value c.index-turn.ensures (entered_moves (event.Call c.args.call c.in_ok-started.ensures.ok.1) c.in_ok-started.ensures.ok.0 c.index_mut-seat.result.now c.start.new.seat c.in_ok-started.ensures.ok.3),
  search rules,
)

pub returns-clause-ok : goal.returns-clause-ok
returns-clause-ok g c = rw (← c.self.view_is) (c.in_ok-started.ensures.ok.0, c.in_ok-started.ensures.ok.1, subst (λ l. Answered g.N.Numbered.site g.N.Backed.tells g.N.Backed.steady l c.in_ok-started.ensures.ok.0 c.args.call c.in_ok-started.ensures.ok.1 (verdict_of (λ p. Rows (g.K.Pin.Pinned.width p) (g.K.Pin.Pinned.rows p)) c.in_ok-started.started)) (there g.J.Site.ids c.self.inside.number c.self.inside.okd c.self.inside.proxies.items c.self.inside.pubd c.self.inside.oklogd c.self.inside.board c.self.inside.own.past c.self.inside.spare c.self.invariant.0 c.locks.inside.proxies.items (length g.N.Numbered.site.proxies) (ap (λ (x : LockIds). x.proxies) c.locks.invariant.ids_are) c.locks.invariant.declared c.args.proxy c.requires.proxy c.index_mut-seat.result.now c.index-turn.result.now c.index_mut-seat.ensures.value c.index-turn.ensures).at.label_is c.in_ok-started.ensures.ok.2, enters_there g.J.Site.ids c.self.inside.number c.self.inside.okd c.self.inside.proxies.items c.self.inside.pubd c.self.inside.oklogd c.self.inside.board (own.Proxy c.args.proxy (event.Call c.args.call c.in_ok-started.ensures.ok.1) ∷ c.self.inside.own.past) c.self.inside.spare c.self.invariant.0 c.locks.inside.proxies.items (length g.N.Numbered.site.proxies) (ap (λ (x : LockIds). x.proxies) c.locks.invariant.ids_are) c.locks.invariant.declared c.args.proxy c.requires.proxy c.index_mut-seat.result.now c.start.new.seat c.index-turn.result.now (event.Call c.args.call c.in_ok-started.ensures.ok.1) c.in_ok-started.ensures.ok.0 c.enter.new.self.past c.index_mut-seat.ensures.value c.index-turn.ensures c.in_ok-started.ensures.ok.3 (c.enter.ensures.past ∙ (ap (λ m. own.Proxy c.args.proxy m ∷ c.make_room.new.self.past) (called c.in_ok-copy.copy c.args.call c.mark_of.result c.in_ok-started.ensures.ok.1 c.in_ok-copy.ensures (c.mark_of.ensures ∙ marked (λ p. Rows (g.K.Pin.Pinned.width p) (g.K.Pin.Pinned.rows p)) g.N.Numbered.site g.N.Backed.tells g.N.Backed.steady c.index_mut-seat.result.now.label c.in_ok-started.ensures.ok.0 c.args.call c.in_ok-started.ensures.ok.1 c.in_ok-started.started c.in_ok-started.ensures.ok.2)) ∙ ap (λ l. own.Proxy c.args.proxy (event.Call c.args.call c.in_ok-started.ensures.ok.1) ∷ l) c.make_room.ensures.past)))
