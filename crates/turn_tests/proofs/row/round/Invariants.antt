use Rattle.turn_tests.specs.Rounds.{SeenRow}
use Rattle.turn_tests.proofs.row.round.Given as goal

abbrev pub invariant-loop-i : goal.invariant-loop-i
invariant-loop-i g l = SeenRow l.fn.seats.items l.seats.items
