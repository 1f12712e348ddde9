use Rattle.std.proofs.Common.{◌≡◌, ◌+◌, ◌≤◌, length, map}
use Rattle.std.specs.Prelude.{vec_capacity}
use Rattle.turn_lock.specs.Tickets.{AreNew}
use Rattle.turn_lock.specs.Seats.{AreFresh}
use Rattle.turn_lock.proofs.turn.Turn.new.Given as goal

abbrev pub invariant-loop-spot : goal.invariant-loop-spot
invariant-loop-spot g l =
    AreNew l.queue.table.shared.table_id l.queue.table.shared.key.1 0 (map (λ s. s.place) l.spots.items)
    × AreFresh l.queue.table.shared.table_id l.queue.table.shared.key.1 (length l.spots.items) l.seats.items
    × (length l.spots.items + length l.seats.items ≡ l.count) × (l.count ≤ vec_capacity l.seats)

abbrev pub decreases-loop-spot : goal.decreases-loop-spot
decreases-loop-spot g l = length l.spots.items
