use Rattle.std.proofs.Common.{◌≡◌, ◌+◌, ◌++◌, map, length}
use Rattle.std.specs.Prelude.{vec_len, vec_capacity}
use Rattle.site_run.specs.Places.{Placed, SamePlaces}
use Rattle.site_run.specs.Rows.{Seated, SameRoom}
use Rattle.site_run.specs.Tied.{MoreOf}
use Rattle.okws_serve.specs.Posts.{DoorIs}
use Rattle.okws_serve.specs.Manned.{AreManned, doors_of, lives_of}
use Rattle.okws_serve.proofs.manning.man_doors.Given as goal

abbrev pub invariant-loop-next : goal.invariant-loop-next
invariant-loop-next g l = record {
  seated : Seated l.ground.turn.now (length g.N.Numbered.site.services) l.chairs;
  alike : length l.chairs.seats ≡ length l.places.entrances;
  placed : Placed l.ground.numbers.now.id l.places;
  manned : AreManned l.ground.turn.now l.ground.numbers.now.id l.ground.most (length l.places.entrances) l.posts.items;
  doors : l.fn.places.entrances ≡ l.places.entrances ++ map (λ (d : DoorIs). d.entrance) (doors_of l.posts.items);
  lives : MoreOf (lives_of (doors_of l.posts.items)) l.chairs l.fn.chairs;
  many : length l.places.entrances + vec_len l.posts ≡ length l.fn.places.entrances;
  chairs_room : SameRoom l.fn.chairs l.chairs;
  places_room : SamePlaces l.fn.places l.places;
  posts_room : vec_capacity l.posts ≡ vec_capacity l.fn.posts;
}

abbrev pub decreases-loop-next : goal.decreases-loop-next
decreases-loop-next g l = length l.places.entrances
