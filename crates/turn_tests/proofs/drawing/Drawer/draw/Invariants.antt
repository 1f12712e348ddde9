use Rattle.std.proofs.Common.{◌≡◌, reverse}
use Rattle.turn_lock.specs.BoardSeats.{MayDraw}
use Rattle.turn_tests.proofs.drawing.Drawer.draw.Given as goal

abbrev pub invariant-loop : goal.invariant-loop
invariant-loop l = (l.self-inside.seat.board ≡ l.board.id) × (l.self-inside.seat.drawn ≡ reverse l.self-inside.numbers.items) × MayDraw l.self-inside.seat.drawn
