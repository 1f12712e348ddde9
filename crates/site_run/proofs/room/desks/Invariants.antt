use Rattle.std.proofs.Common.{◌≡◌, ◌+◌, map, length}
use Rattle.std.specs.Prelude.{vec_len, vec_capacity}
use Rattle.atomic_table.specs.Seated.{TableId}
use Rattle.turn_lock.specs.BoardSeats.{AreFresh, AreRising}
use Rattle.site_run.specs.declared.room.Desk.{Desk}
use Rattle.site_run.proofs.room.desks.Given as goal

abbrev pub invariant-loop-place : goal.invariant-loop-place
invariant-loop-place l = record {
  rising : (z : TableId) → AreFresh z 0 l.fn.places.items → AreFresh z (length l.desks.items) l.places.items × AreRising z 0 (map (λ (d : Desk). d.place) l.desks.items);
  many : vec_len l.places + vec_len l.desks ≡ vec_len l.fn.places;
  room : vec_capacity l.desks ≡ vec_len l.fn.places;
}

abbrev pub decreases-loop-place : goal.decreases-loop-place
decreases-loop-place l = length l.places.items
