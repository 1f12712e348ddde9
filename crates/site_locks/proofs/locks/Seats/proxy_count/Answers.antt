use Rattle.std.proofs.Common.{rules, ◌≡◌, ◌∙◌, map, length, sym, ap}
use Rattle.std.proofs.lemmas.List.{length-map}
use Rattle.okws_base.specs.declared.journal.Entry.{Entry}
use Rattle.okws_plan.specs.declared.event.ProxyEvent.{ProxyEvent}
use Rattle.turn_lock.specs.Seats.{SeatIs, TurnIs}
use Rattle.site_locks.specs.Sat.{LockIds}
use Rattle.site_locks.proofs.Rows.{row_length}
use Rattle.site_locks.proofs.locks.Seats.proxy_count.Goals as goal

pub returns-clause-declared : goal.returns-clause-declared
returns-clause-declared g c =
    let ps = c.self.inside.proxies.items in
    let ts = c.locks.inside.proxies.items in
    let ids : map (λ (t : TurnIs). t.id) ts ≡ g.J.Site.ids.proxies = ap (λ (x : LockIds). x.proxies) c.locks.invariant.ids_are in
    let many : length ps ≡ length g.N.Numbered.site.proxies = row_length g.J.Site.ids.proxies 0 c.self.inside.number ps c.self.invariant.0.proxies_at ∙ (ap length (sym ids) ∙ (length-map ts (λ (t : TurnIs). t.id) ∙ c.locks.invariant.declared)) in
    search rules

pub returns-clause-seats : goal.returns-clause-seats
returns-clause-seats g c =
    let ps = c.self.inside.proxies.items in
    let many : length (map (λ (a : SeatIs (Entry ProxyEvent)). a.seen) ps) ≡ length ps = length-map ps (λ (a : SeatIs (Entry ProxyEvent)). a.seen) in
    rw (← c.self.view_is) (search rules)

pub returns-clause-locks : goal.returns-clause-locks
returns-clause-locks g c =
    let ps = c.self.inside.proxies.items in
    let many : length ps ≡ length g.J.Site.ids.proxies = row_length g.J.Site.ids.proxies 0 c.self.inside.number ps c.self.invariant.0.proxies_at in
    search rules
