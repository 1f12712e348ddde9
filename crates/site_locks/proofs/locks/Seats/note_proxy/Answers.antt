use Rattle.std.proofs.Common.{rules, ◌≡◌, ◌∙◌, ◌<◌, length, get_or, sym, ap, subst}
use Rattle.atomic_table.specs.Seated.{TableId}
use Rattle.okws_base.specs.declared.journal.Entry.{Entry}
use Rattle.okws_plan.specs.declared.event.ProxyEvent.{ProxyEvent}
use Rattle.monitor_model.specs.Seen.{proxy_past}
use Rattle.turn_lock.specs.Seats.{NoteIs}
use Rattle.site_locks.specs.Sat.{LockIds, Sat, AreSeats}
use Rattle.site_locks.proofs.Heard.{seat_kept}
use Rattle.site_locks.proofs.Placing.{within, there, seen_there}
use Rattle.site_locks.proofs.Rows.{Placed}
use Rattle.site_locks.proofs.locks.Seats.note_proxy.Goals as goal

pub index_mut-seat-requires : goal.index_mut-seat-requires
index_mut-seat-requires g c =
    let l : c.args.proxy < length c.self.inside.proxies.items = within g.J.Site.ids c.self.inside.number c.self.inside.okd c.self.inside.proxies.items c.self.inside.pubd c.self.inside.oklogd c.self.inside.board c.self.inside.own.past c.self.inside.spare c.self.invariant.0 c.locks.inside.proxies.items (length g.N.Numbered.site.proxies) (ap (λ (x : LockIds). x.proxies) c.locks.invariant.ids_are) c.locks.invariant.declared c.args.proxy c.requires in
    search rules

pub split-requires : goal.split-requires
split-requires g c = record { lock = (there g.J.Site.ids c.self.inside.number c.self.inside.okd c.self.inside.proxies.items c.self.inside.pubd c.self.inside.oklogd c.self.inside.board c.self.inside.own.past c.self.inside.spare c.self.invariant.0 c.locks.inside.proxies.items (length g.N.Numbered.site.proxies) (ap (λ (x : LockIds). x.proxies) c.locks.invariant.ids_are) c.locks.invariant.declared c.args.proxy c.requires c.index_mut-seat.result.now c.index-turn.result.now c.index_mut-seat.ensures.value c.index-turn.ensures).lock_is }

pub invariant_of-self : goal.invariant_of-self
invariant_of-self g c =
    let same = seat_kept c.self.inside.proxies.items c.args.proxy c.index_mut-seat.result.now c.split.new.seat (within g.J.Site.ids c.self.inside.number c.self.inside.okd c.self.inside.proxies.items c.self.inside.pubd c.self.inside.oklogd c.self.inside.board c.self.inside.own.past c.self.inside.spare c.self.invariant.0 c.locks.inside.proxies.items (length g.N.Numbered.site.proxies) (ap (λ (x : LockIds). x.proxies) c.locks.invariant.ids_are) c.locks.invariant.declared c.args.proxy c.requires) c.index_mut-seat.ensures.value c.split.ensures.seat in
    (subst (λ ps. AreSeats g.J.Site.ids c.self.inside.number c.self.inside.okd ps c.self.inside.pubd c.self.inside.oklogd c.self.inside.board) (sym same) c.self.invariant.0, c.self.invariant.1)

pub returns-clause-same : goal.returns-clause-same
returns-clause-same g c =
    let same = seat_kept c.self.inside.proxies.items c.args.proxy c.index_mut-seat.result.now c.split.new.seat (within g.J.Site.ids c.self.inside.number c.self.inside.okd c.self.inside.proxies.items c.self.inside.pubd c.self.inside.oklogd c.self.inside.board c.self.inside.own.past c.self.inside.spare c.self.invariant.0 c.locks.inside.proxies.items (length g.N.Numbered.site.proxies) (ap (λ (x : LockIds). x.proxies) c.locks.invariant.ids_are) c.locks.invariant.declared c.args.proxy c.requires) c.index_mut-seat.ensures.value c.split.ensures.seat in
    search rules

pub returns-clause-seen : goal.returns-clause-seen
returns-clause-seen g c =
    ap (λ (n : NoteIs (Entry ProxyEvent)). n.seen) c.split.ensures.note ∙ (sym (seen_there g.J.Site.ids c.self.inside.number c.self.inside.okd c.self.inside.proxies.items c.self.inside.pubd c.self.inside.oklogd c.self.inside.board c.self.inside.own.past c.self.inside.spare c.self.invariant.0 c.locks.inside.proxies.items (length g.N.Numbered.site.proxies) (ap (λ (x : LockIds). x.proxies) c.locks.invariant.ids_are) c.locks.invariant.declared c.args.proxy c.requires c.index_mut-seat.result.now c.index_mut-seat.ensures.value) ∙ ap (λ (x : Sat). proxy_past x.proxies c.args.proxy) c.self.view_is)

pub returns-clause-lock : goal.returns-clause-lock
returns-clause-lock g c =
    let seat = c.index_mut-seat.result.now in
    let at : Placed g.J.Site.ids.proxies c.self.inside.number c.args.proxy seat c.index-turn.result.now = there g.J.Site.ids c.self.inside.number c.self.inside.okd c.self.inside.proxies.items c.self.inside.pubd c.self.inside.oklogd c.self.inside.board c.self.inside.own.past c.self.inside.spare c.self.invariant.0 c.locks.inside.proxies.items (length g.N.Numbered.site.proxies) (ap (λ (x : LockIds). x.proxies) c.locks.invariant.ids_are) c.locks.invariant.declared c.args.proxy c.requires seat c.index-turn.result.now c.index_mut-seat.ensures.value c.index-turn.ensures in
    let lock : c.split.result.lock ≡ seat.lock = ap (λ (n : NoteIs (Entry ProxyEvent)). n.lock) c.split.ensures.note in
    subst (λ (z : TableId). z ≡ get_or g.J.Site.ids.proxies c.args.proxy z) (sym lock) (subst (λ (z : TableId). seat.lock ≡ get_or g.J.Site.ids.proxies c.args.proxy z) (sym at.lock_is) at.at.lock_is)
