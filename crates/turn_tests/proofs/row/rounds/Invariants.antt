use Rattle.turn_tests.specs.Rounds.{SeenRow}
use Rattle.turn_tests.proofs.row.rounds.Given as goal

abbrev pub invariant-loop-number : goal.invariant-loop-number
invariant-loop-number g l = SeenRow l.fn.seats.items l.seats.items
