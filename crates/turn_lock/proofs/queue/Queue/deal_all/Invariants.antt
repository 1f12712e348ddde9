use Rattle.std.proofs.Common.{◌≡◌, ◌-◌, [], map}
use Rattle.std.specs.Prelude.{vec_len, vec_capacity}
use Rattle.turn_lock.specs.Tickets.{AreNew, view_of, part_of}
use Rattle.turn_lock.specs.declared.rule.Stage.TheVariants.{Idle}
use Rattle.turn_lock.proofs.queue.Queue.deal_all.Given as goal

abbrev pub invariant-loop-number : goal.invariant-loop-number
invariant-loop-number g l =
    (l.place.table_id ≡ l.fn.place.table_id) × (l.place.me ≡ (view_of Idle (part_of (l.count - 1) [] []) [] l.number l.self.table.shared.key.1, []))
    × AreNew l.self.table.shared.table_id l.self.table.shared.key.1 0 (map (λ s. s.place) l.spots.items) × (vec_len l.spots ≡ l.number) × (vec_capacity l.spots ≡ vec_capacity l.fn.spots)
