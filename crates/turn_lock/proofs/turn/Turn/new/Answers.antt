use Rattle.std.proofs.Common.{rules, arith, ◌≡◌, ◌+◌, suc, map, length, sym, ap, ◌∙◌, subst}
use Rattle.turn_lock.specs.Tickets.{AreNew, IsNew}
use Rattle.turn_lock.specs.Seats.{AreFresh, seat_of}
use Rattle.turn_lock.proofs.Reversed.{new-pop, is_seat, is_fresh, fresh-push, push_length}
use Rattle.turn_lock.proofs.turn.Turn.new.Goals as goal

pub invariant_of-push_reserved : goal.invariant_of-push_reserved
invariant_of-push_reserved g c =
    let z = c.in_ok-queue.queue.table.shared.table_id in
    let tag = c.in_ok-queue.queue.table.shared.key.1 in
    let left = c.pop.new.self.items in
    let spot = c.in-Some.spot in
    let e = c.in-Some.ensures.items in
    let n = new-pop (λ s. s.place) z tag 0 left spot (subst (λ l. AreNew z tag 0 (map (λ s. s.place) l)) e c.loop-spot.invariant.0) in
    is_seat g.V.Journaled.by z tag (0 + length left) spot.place n.1

pub loop-spot-preserved : goal.loop-spot-preserved
loop-spot-preserved g c =
    let z = c.in_ok-queue.queue.table.shared.table_id in
    let tag = c.in_ok-queue.queue.table.shared.key.1 in
    let left = c.pop.new.self.items in
    let spot = c.in-Some.spot in
    let e = c.in-Some.ensures.items in
    let i = c.loop-spot.invariant in
    let n = new-pop (λ s. s.place) z tag 0 left spot (subst (λ l. AreNew z tag 0 (map (λ s. s.place) l)) e i.0) in
    let at : IsNew z tag (length left) spot.place = subst (λ k. IsNew z tag k spot.place) (omega arith) n.1 in
    let more : length c.loop-spot.spots.items ≡ suc (length left) = ap length e ∙ push_length left spot in
    let f = is_fresh z tag (length left) spot.place at in
    let pushed = fresh-push z tag (length left) c.loop-spot.seats.items (seat_of spot.place) (subst (λ k. AreFresh z tag k c.loop-spot.seats.items) more i.1) f in
    let items = c.push_reserved.ensures.items in
    let size = ap length items ∙ push_length c.loop-spot.seats.items (seat_of spot.place) in
    let total = i.2 in
    let room = i.3 in
    (n.0, subst (AreFresh z tag (length left)) (sym items) pushed, omega arith, search rules)
