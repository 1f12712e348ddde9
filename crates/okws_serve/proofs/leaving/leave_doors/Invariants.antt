use Rattle.std.proofs.Common.{◌≡◌, ◌+◌, ◌++◌, map, length}
use Rattle.std.specs.Prelude.{vec_len}
use Rattle.turn_lock.specs.Seats.{TurnIs}
use Rattle.site_run.specs.Places.{AllIdle, SamePlaces}
use Rattle.site_run.specs.Rows.{Seated, SameRoom}
use Rattle.okws_serve.specs.Posts.{DoorIs}
use Rattle.okws_serve.specs.Manned.{AllDone, AreAt, doors_of, lives_of, attended_of}
use Rattle.okws_serve.proofs.Running.{Counted, LivesBack}
use Rattle.okws_serve.proofs.leaving.leave_doors.Given as goal

abbrev pub invariant-loop-post : goal.invariant-loop-post
invariant-loop-post g l = record {
  done : AllDone l.posts.items;
  seated : (t : TurnIs) → AreAt t 0 l.fn.posts.items → Seated t (length g.N.Numbered.site.services) l.chairs × AreAt t (length l.chairs.seats) l.posts.items;
  many : vec_len l.posts + length l.chairs.seats ≡ vec_len l.fn.posts;
  alike : (length l.chairs.cells ≡ length l.chairs.seats) × (length l.chairs.turns ≡ length l.chairs.seats) × (length l.places.entrances ≡ length l.chairs.seats) × (length l.places.places ≡ length l.chairs.seats);
  lives : LivesBack (lives_of (doors_of l.fn.posts.items)) l.posts.items l.fn.chairs l.chairs;
  doors : l.places.entrances ++ map (λ (d : DoorIs). d.entrance) (doors_of l.posts.items) ≡ map (λ (d : DoorIs). d.entrance) (doors_of l.fn.posts.items);
  places : l.places.places ++ map (λ (d : DoorIs). d.place) (doors_of l.posts.items) ≡ map (λ (d : DoorIs). d.place) (doors_of l.fn.posts.items);
  idle : AllIdle l.places.entrances;
  attended : Counted (attended_of (doors_of l.fn.posts.items)) l.posts.items l.served.connections l.served.starved;
  chairs_room : SameRoom l.fn.chairs l.chairs;
  places_room : SamePlaces l.fn.places l.places;
}

abbrev pub decreases-loop-post : goal.decreases-loop-post
decreases-loop-post g l = length l.posts.items
