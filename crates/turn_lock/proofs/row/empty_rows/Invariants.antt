use Rattle.std.proofs.Common.{◌≡◌, ◌≤◌, [], map}
use Rattle.std.specs.Prelude.{vec_len, vec_capacity}
use Rattle.turn_lock.specs.Rows.{FreshRows}
use Rattle.turn_lock.proofs.row.empty_rows.Given as goal

abbrev pub invariant-loop : goal.invariant-loop
invariant-loop g l = (vec_len l.rows ≡ l.counter) × (l.count ≤ vec_capacity l.rows) × FreshRows [] 0 (map (λ s. s.items) l.rows.items)
