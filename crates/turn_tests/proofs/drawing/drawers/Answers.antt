use Rattle.std.proofs.Common.{rules, ◌≡◌, ◌++◌, ◌∷◌, [], suc, length, sym, ap, ◌∙◌, subst}
use Rattle.turn_lock.specs.BoardSeats.{AreFresh}
use Rattle.turn_lock.proofs.Reversed.{push_length}
use Rattle.turn_tests.specs.Draws.{DrawerIs, AllReady}
use Rattle.turn_tests.proofs.Draws.{fresh_pop, ready-push}
use Rattle.turn_tests.proofs.drawing.drawers.Goals as goal

pub loop-seat-preserved : goal.loop-seat-preserved
loop-seat-preserved c =
    let z = c.args.board.now.id in
    let i = c.loop-seat.invariant in
    let ds = c.loop-seat.drawers.items in
    let now = c.push.new.self.items in
    let seat = c.in-Some.seat in
    let left = c.pop.new.self.items in
    let f = fresh_pop z (length ds) left seat (subst (AreFresh z (length ds)) c.in-Some.ensures.items i.0) in
    let none : c.in_ok-numbers.numbers.items ≡ [] = search rules in
    let d : DrawerIs = record { board = seat.board; drawn = seat.drawn; numbers = c.in_ok-numbers.numbers.items } in
    let items : now ≡ ds ++ d ∷ [] = search rules in
    let more : length now ≡ suc (length ds) = ap length items ∙ push_length ds d in (
      subst (λ k. AreFresh z k left) (sym more) f.0,
      subst (AllReady z) (sym items) (ready-push z ds d i.1 (record { board = f.1; none = f.2; empty = none })),
    )
