use Rattle.std.proofs.Common.{rules, ◌∙◌, ◌<◌, length, refl, sym, ap, subst}
use Rattle.okws_base.specs.Turns.{Behind}
use Rattle.okws_base.specs.declared.journal.Entry.{Entry}
use Rattle.okws_plan.specs.declared.event.ProxyEvent.{ProxyEvent}
use Rattle.monitor_model.specs.Seen.{proxy_past}
use Rattle.turn_lock.specs.Seats.{NoteIs}
use Rattle.site_locks.specs.Sat.{LockIds}
use Rattle.site_locks.proofs.Heard.{met_sees, note_at, note_kept, note_seen, notes_many}
use Rattle.site_locks.proofs.Placing.{within, there, moved_there, seen_moves, sees_there}
use Rattle.site_locks.proofs.locks.Seats.hear_proxy.Goals as goal

pub index_mut-kept-requires : goal.index_mut-kept-requires
index_mut-kept-requires g c =
    let many = notes_many c.notes.inside.notes.items c.locks.inside.proxies.items (c.notes.invariant ∙ sym (ap (λ (x : LockIds). x.proxies) c.locks.invariant.ids_are)) in
    let declared = c.locks.invariant.declared in
    search rules

pub again-note-requires : goal.again-note-requires
again-note-requires g c =
    let is = c.notes.invariant ∙ sym (ap (λ (x : LockIds). x.proxies) c.locks.invariant.ids_are) in
    record { lock = note_at c.notes.inside.notes.items c.locks.inside.proxies.items c.args.proxy c.index_mut-kept.result.now c.index-turn.result.now is (subst (λ n. c.args.proxy < n) (sym c.locks.invariant.declared) c.requires) c.index_mut-kept.ensures.value c.index-turn.ensures }

pub index_mut-seat-requires : goal.index_mut-seat-requires
index_mut-seat-requires g c =
    let l : c.args.proxy < length c.self.inside.proxies.items = within g.J.Site.ids c.self.inside.number c.self.inside.okd c.self.inside.proxies.items c.self.inside.pubd c.self.inside.oklogd c.self.inside.board c.self.inside.own.past c.self.inside.spare c.self.invariant.0 c.locks.inside.proxies.items (length g.N.Numbered.site.proxies) (ap (λ (x : LockIds). x.proxies) c.locks.invariant.ids_are) c.locks.invariant.declared c.args.proxy c.requires in
    search rules

pub meet-requires-clause-lock : goal.meet-requires-clause-lock
meet-requires-clause-lock g c =
    let is = c.notes.invariant ∙ sym (ap (λ (x : LockIds). x.proxies) c.locks.invariant.ids_are) in
    let note = note_at c.notes.inside.notes.items c.locks.inside.proxies.items c.args.proxy c.index_mut-kept.result.now c.index-turn.result.now is (subst (λ n. c.args.proxy < n) (sym c.locks.invariant.declared) c.requires) c.index_mut-kept.ensures.value c.index-turn.ensures in
    ((there g.J.Site.ids c.self.inside.number c.self.inside.okd c.self.inside.proxies.items c.self.inside.pubd c.self.inside.oklogd c.self.inside.board c.self.inside.own.past c.self.inside.spare c.self.invariant.0 c.locks.inside.proxies.items (length g.N.Numbered.site.proxies) (ap (λ (x : LockIds). x.proxies) c.locks.invariant.ids_are) c.locks.invariant.declared c.args.proxy c.requires c.index_mut-seat.result.now c.index-turn.result.now c.index_mut-seat.ensures.value c.index-turn.ensures).lock_is, ap (λ (n : NoteIs (Entry ProxyEvent)). n.lock) c.again-note.ensures.again ∙ note)

pub meet-requires-clause-free : goal.meet-requires-clause-free
meet-requires-clause-free g c = (there g.J.Site.ids c.self.inside.number c.self.inside.okd c.self.inside.proxies.items c.self.inside.pubd c.self.inside.oklogd c.self.inside.board c.self.inside.own.past c.self.inside.spare c.self.invariant.0 c.locks.inside.proxies.items (length g.N.Numbered.site.proxies) (ap (λ (x : LockIds). x.proxies) c.locks.invariant.ids_are) c.locks.invariant.declared c.args.proxy c.requires c.index_mut-seat.result.now c.index-turn.result.now c.index_mut-seat.ensures.value c.index-turn.ensures).at.free

pub invariant_of-self : goal.invariant_of-self
invariant_of-self g c = (
  moved_there g.J.Site.ids c.self.inside.number c.self.inside.okd c.self.inside.proxies.items c.self.inside.pubd c.self.inside.oklogd c.self.inside.board c.self.inside.own.past c.self.inside.spare c.self.invariant.0 c.locks.inside.proxies.items (length g.N.Numbered.site.proxies) (ap (λ (x : LockIds). x.proxies) c.locks.invariant.ids_are) c.locks.invariant.declared c.args.proxy c.requires c.index_mut-seat.result.now c.meet.new.seat c.index-turn.result.now c.index_mut-seat.ensures.value c.index-turn.ensures (seen_moves c.meet.new.seat.seen c.index_mut-seat.result.now c.meet.new.seat (met_sees c.index_mut-seat.result.now c.meet.new.seat c.meet.ensures.seat c.meet.ensures.grows)),
  c.self.invariant.1,
)

pub invariant_of-notes : goal.invariant_of-notes
invariant_of-notes g c =
    let many = notes_many c.notes.inside.notes.items c.locks.inside.proxies.items (c.notes.invariant ∙ sym (ap (λ (x : LockIds). x.proxies) c.locks.invariant.ids_are)) in
    let same = note_kept c.notes.inside.notes.items c.args.proxy c.index_mut-kept.result.now c.again-note.new.note (subst (λ n. c.args.proxy < n) (sym (many ∙ c.locks.invariant.declared)) c.requires) c.index_mut-kept.ensures.value c.again-note.ensures.note in
    rw same c.notes.invariant

pub returns-clause-notes : goal.returns-clause-notes
returns-clause-notes g c =
    let many = notes_many c.notes.inside.notes.items c.locks.inside.proxies.items (c.notes.invariant ∙ sym (ap (λ (x : LockIds). x.proxies) c.locks.invariant.ids_are)) in
    let same = note_kept c.notes.inside.notes.items c.args.proxy c.index_mut-kept.result.now c.again-note.new.note (subst (λ n. c.args.proxy < n) (sym (many ∙ c.locks.invariant.declared)) c.requires) c.index_mut-kept.ensures.value c.again-note.ensures.note in
    rw (same, ← c.notes.view_is) refl

pub returns-clause-sees : goal.returns-clause-sees
returns-clause-sees g c =
    let seat = c.index_mut-seat.result.now in
    let now = c.meet.new.seat in
    let notes = c.notes.inside.notes.items in
    let many = notes_many notes c.locks.inside.proxies.items (c.notes.invariant ∙ sym (ap (λ (x : LockIds). x.proxies) c.locks.invariant.ids_are)) in
    let seen = note_seen notes c.args.proxy c.index_mut-kept.result.now (subst (λ n. c.args.proxy < n) (sym (many ∙ c.locks.invariant.declared)) c.requires) c.index_mut-kept.ensures.value in
    let met : Behind (proxy_past c.args.notes.now c.args.proxy) now.seen =
    subst (λ J. Behind J now.seen) (ap (λ (n : NoteIs (Entry ProxyEvent)). n.seen) c.again-note.ensures.again ∙ (sym seen ∙ ap (λ l. proxy_past l c.args.proxy) c.notes.view_is)) c.meet.ensures.met in
    rw (← c.self.view_is) (now.seen, met, sees_there g.J.Site.ids c.self.inside.number c.self.inside.okd c.self.inside.proxies.items c.self.inside.pubd c.self.inside.oklogd c.self.inside.board c.self.inside.own.past c.self.inside.spare c.self.invariant.0 c.locks.inside.proxies.items (length g.N.Numbered.site.proxies) (ap (λ (x : LockIds). x.proxies) c.locks.invariant.ids_are) c.locks.invariant.declared c.args.proxy c.requires seat now c.index-turn.result.now now.seen c.self.inside.own.past c.index_mut-seat.ensures.value c.index-turn.ensures (met_sees seat now c.meet.ensures.seat c.meet.ensures.grows) refl)
