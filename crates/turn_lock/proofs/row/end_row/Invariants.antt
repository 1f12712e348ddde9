use Rattle.std.proofs.Common.{◌≡◌, ◌+◌, ◌≤◌, length, map, reverse}
use Rattle.std.specs.Prelude.{vec_len, vec_capacity}
use Rattle.turn_lock.specs.Rows.{Ending}
use Rattle.turn_lock.proofs.row.end_row.Given as goal

abbrev pub invariant-loop-turn : goal.invariant-loop-turn
invariant-loop-turn g l =
    Ending g.V.Journaled.by l.count l.turns.items l.fn.turns.items l.seats.items l.fn.seats.items (reverse (map g.V.Journaled.journal l.done.items)) (reverse (map g.V.Journaled.label l.done.items))
    × (vec_len l.turns ≡ vec_len l.seats) × (vec_len l.turns + vec_len l.done ≤ vec_capacity l.done)

abbrev pub decreases-loop-turn : goal.decreases-loop-turn
decreases-loop-turn g l = length l.turns.items
