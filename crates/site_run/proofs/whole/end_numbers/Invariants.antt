use Rattle.std.proofs.Common.{◌≡◌, ◌≤◌, ◌+◌, ◌++◌, map, reverse, length}
use Rattle.std.specs.Prelude.{vec_len, vec_capacity}
use Rattle.turn_lock.specs.BoardSeats.{AllAt}
use Rattle.site_run.specs.declared.room.Desk.{Desk}
use Rattle.site_run.proofs.whole.end_numbers.Given as goal

abbrev pub invariant-loop-desk : goal.invariant-loop-desk
invariant-loop-desk l = record {
  at : AllAt l.numbers.id l.places.items;
  left_at : AllAt l.numbers.id (map (λ (d : Desk). d.place) l.desks.items);
  taken : l.places.items ++ reverse (map (λ (d : Desk). d.place) l.desks.items) ≡ reverse (map (λ (d : Desk). d.place) l.fn.desks.items);
  many : vec_len l.desks + vec_len l.places ≡ vec_len l.fn.desks;
  room : vec_len l.fn.desks + 1 ≤ vec_capacity l.places;
}

abbrev pub decreases-loop-desk : goal.decreases-loop-desk
decreases-loop-desk l = length l.desks.items
