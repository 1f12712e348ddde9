use Rattle.std.proofs.Common.{◌≡◌, ◌++◌, length, map, reverse}
use Rattle.std.specs.Prelude.{vec_len}
use Rattle.turn_lock.specs.Rows.{FreshRows, AllCount, AllNone}
use Rattle.turn_lock.proofs.row.make_row.Given as goal

abbrev pub invariant-loop-value : goal.invariant-loop-value
invariant-loop-value g l =
    AllNone (map g.V.Journaled.journal l.left.items)
    × (map g.V.Journaled.label l.fn.values.items ≡ map (λ t. t.label) l.turns.items ++ reverse (map g.V.Journaled.label l.left.items))
    × AllCount l.count l.turns.items × FreshRows l.turns.items 0 (map (λ s. s.items) l.rows.items) × (vec_len l.rows ≡ l.count)

abbrev pub decreases-loop-value : goal.decreases-loop-value
decreases-loop-value g l = length l.left.items
