use Rattle.std.proofs.Common.{rules, arith, ◌≡◌, ◌+◌, suc, length, sym, ap, ◌∙◌, subst}
use Rattle.turn_lock.specs.BoardSeats.{IsFresh, AreFresh, AreRising}
use Rattle.turn_lock.proofs.BoardGathers.{rising-pop, fresh-push, push_length}
use Rattle.turn_lock.proofs.board.Board.new.Goals as goal

pub loop-seat-preserved : goal.loop-seat-preserved
loop-seat-preserved c =
    let z = c.in_ok-board.board.id in
    let left = c.pop.new.self.items in
    let seat = c.in-Some.seat in
    let e = c.in-Some.ensures.items in
    let i = c.loop-seat.invariant in
    let n = rising-pop z 0 left seat (subst (AreRising z 0) e i.0) in
    let fresh = subst (λ k. IsFresh z k seat) (let q : 0 + length left ≡ length left = omega arith in q) n.1 in
    let more : length c.loop-seat.rising.items ≡ suc (length left) = ap length e ∙ push_length left seat in
    let pushed = fresh-push z (length left) c.loop-seat.seats.items seat (subst (λ k. AreFresh z k c.loop-seat.seats.items) more i.1) fresh in
    let items = c.push_reserved-in-Some.ensures.items in
    let size = ap length items ∙ push_length c.loop-seat.seats.items seat in
    let total = i.2 in
    (n.0, subst (AreFresh z (length left)) (sym items) pushed, omega arith, search rules)
