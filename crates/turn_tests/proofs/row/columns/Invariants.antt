use Rattle.std.proofs.Common.{◌≡◌, map}
use Rattle.std.specs.Prelude.{vec_len}
use Rattle.turn_lock.specs.Rows.{AllNone}
use Rattle.turn_tests.proofs.row.columns.Given as goal

abbrev pub invariant-loop-label : goal.invariant-loop-label
invariant-loop-label l = AllNone (map (λ x. x.past) l.ledgers.items) × (vec_len l.ledgers ≡ l.label)
