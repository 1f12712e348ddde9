use Rattle.std.proofs.Common.{arith, ◌≡◌, ◌∙◌, map, length, sym, ap, subst}
use Rattle.turn_lock.proofs.Rows.{pushed_map}
use Rattle.turn_lock.specs.Seats.{TurnIs}
use Rattle.site_locks.specs.Made.{DeckIs}
use Rattle.site_locks.specs.Sat.{LocksAre, AreSeats, RiseFrom, ids_of, sat_of}
use Rattle.site_locks.proofs.Dealing.{deal_next}
use Rattle.site_locks.proofs.making.Deck.deal.Goals as goal

pub invariant_of-result : goal.invariant_of-result
invariant_of-result g c =
    let d : DeckIs = c.args.self.now in
    let e : DeckIs = record { okd = c.last.new.seats.items; rows = map (λ r. r.items) c.last-2.new.seats.items; pubd = c.last-3.new.seats.items; oklogd = c.last-4.new.seats.items; board = c.last-5.new.seats.items } in
    let dealt = deal_next c.args.locks.now c.args.number (length d.okd) d e c.last.result c.last-2.result.items c.last-3.result c.last-4.result c.last-5.result
    (subst (λ (l : LocksAre). RiseFrom 0 (map (λ (t : TurnIs). t.label) l.proxies)) c.locks.view_is c.locks.invariant.labels) c.requires.deals
    (ap (λ (x : DeckIs). x.okd) (sym c.self.view_is) ∙ c.last.ensures)
    (ap (λ (x : DeckIs). x.rows) (sym c.self.view_is) ∙ pushed_map (λ r. r.items) c.self.inside.rows.items c.last-2.new.seats.items c.last-2.result c.last-2.ensures)
    (ap (λ (x : DeckIs). x.pubd) (sym c.self.view_is) ∙ c.last-3.ensures)
    (ap (λ (x : DeckIs). x.oklogd) (sym c.self.view_is) ∙ c.last-4.ensures)
    (ap (λ (x : DeckIs). x.board) (sym c.self.view_is) ∙ c.last-5.ensures) in
    (subst (λ z. AreSeats z c.args.number c.last.result c.last-2.result.items c.last-3.result c.last-4.result c.last-5.result) (subst (λ (l : LocksAre). ids_of l ≡ g.J.Site.ids) c.locks.view_is c.locks.invariant.ids_are) dealt.seats, omega arith)

pub returns-clause-seats : goal.returns-clause-seats
returns-clause-seats g c =
    let d : DeckIs = c.args.self.now in
    let e : DeckIs = record { okd = c.last.new.seats.items; rows = map (λ r. r.items) c.last-2.new.seats.items; pubd = c.last-3.new.seats.items; oklogd = c.last-4.new.seats.items; board = c.last-5.new.seats.items } in
    let dealt = deal_next c.args.locks.now c.args.number (length d.okd) d e c.last.result c.last-2.result.items c.last-3.result c.last-4.result c.last-5.result
    (subst (λ (l : LocksAre). RiseFrom 0 (map (λ (t : TurnIs). t.label) l.proxies)) c.locks.view_is c.locks.invariant.labels) c.requires.deals
    (ap (λ (x : DeckIs). x.okd) (sym c.self.view_is) ∙ c.last.ensures)
    (ap (λ (x : DeckIs). x.rows) (sym c.self.view_is) ∙ pushed_map (λ r. r.items) c.self.inside.rows.items c.last-2.new.seats.items c.last-2.result c.last-2.ensures)
    (ap (λ (x : DeckIs). x.pubd) (sym c.self.view_is) ∙ c.last-3.ensures)
    (ap (λ (x : DeckIs). x.oklogd) (sym c.self.view_is) ∙ c.last-4.ensures)
    (ap (λ (x : DeckIs). x.board) (sym c.self.view_is) ∙ c.last-5.ensures) in
    ap (λ o. sat_of c.args.number c.last.result c.last-2.result.items c.last-3.result c.last-4.result c.last-5.result o 0) c.new.ensures.past ∙ dealt.sat_is

pub returns-clause-deals : goal.returns-clause-deals
returns-clause-deals g c =
    let d : DeckIs = c.args.self.now in
    let e : DeckIs = record { okd = c.last.new.seats.items; rows = map (λ r. r.items) c.last-2.new.seats.items; pubd = c.last-3.new.seats.items; oklogd = c.last-4.new.seats.items; board = c.last-5.new.seats.items } in
    let dealt = deal_next c.args.locks.now c.args.number (length d.okd) d e c.last.result c.last-2.result.items c.last-3.result c.last-4.result c.last-5.result
    (subst (λ (l : LocksAre). RiseFrom 0 (map (λ (t : TurnIs). t.label) l.proxies)) c.locks.view_is c.locks.invariant.labels) c.requires.deals
    (ap (λ (x : DeckIs). x.okd) (sym c.self.view_is) ∙ c.last.ensures)
    (ap (λ (x : DeckIs). x.rows) (sym c.self.view_is) ∙ pushed_map (λ r. r.items) c.self.inside.rows.items c.last-2.new.seats.items c.last-2.result c.last-2.ensures)
    (ap (λ (x : DeckIs). x.pubd) (sym c.self.view_is) ∙ c.last-3.ensures)
    (ap (λ (x : DeckIs). x.oklogd) (sym c.self.view_is) ∙ c.last-4.ensures)
    (ap (λ (x : DeckIs). x.board) (sym c.self.view_is) ∙ c.last-5.ensures) in
    dealt.deals
