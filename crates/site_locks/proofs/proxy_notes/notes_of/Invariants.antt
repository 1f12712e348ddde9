use Rattle.std.proofs.Common.{◌≡◌, ◌≤◌, map}
use Rattle.std.specs.Prelude.{take, vec_len, vec_capacity}
use Rattle.okws_base.specs.declared.journal.Entry.{Entry}
use Rattle.okws_plan.specs.declared.event.ProxyEvent.{ProxyEvent}
use Rattle.turn_lock.specs.Seats.{NoteIs}
use Rattle.site_locks.proofs.proxy_notes.notes_of.Given as goal

abbrev pub invariant-loop-proxy : goal.invariant-loop-proxy
invariant-loop-proxy g l = record {
  same : l.seats ≡ l.fn.seats;
  locks : map (λ (a : NoteIs (Entry ProxyEvent)). a.lock) l.notes.items ≡ take l.proxy g.J.Site.ids.proxies;
  seen : map (λ (a : NoteIs (Entry ProxyEvent)). a.seen) l.notes.items ≡ take l.proxy l.fn.seats.proxies;
  many : vec_len l.notes ≡ l.proxy;
  room : l.count ≤ vec_capacity l.notes;
}
