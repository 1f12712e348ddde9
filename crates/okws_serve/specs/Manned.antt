-- The workers of a run at their posts, from when they are put there until they have left.
use Rattle.std.specs.Prelude.{◌≡◌, ℕ, suc, ◌+◌, Bool, List, [], ◌∷◌, ◌++◌, length, map, None, IsSome, option_to_list}
use Rattle.atomic_table.specs.Seated.{TableId}
use Rattle.okws_base.specs.declared.journal.Entry.{Entry}
use Rattle.okws_plan.specs.declared.configuration.Config.{Config}
use Rattle.okws_plan.specs.declared.event.OkdEvent.{OkdEvent}
use Rattle.okws_outer.specs.Conns.{ConnWire}
use Rattle.okws_outer.specs.Doors.{Entrance}
use Rattle.turn_lock.specs.Seats.{TurnIs}
use Rattle.turn_lock.specs.BoardSeats.{IsFresh}
use Rattle.turn_lock.specs.BoardSeats.{SeatIs as Place}
use Rattle.named_columns.specs.Counts.{capped}
use Rattle.site_worker.specs.Commands.{Oversees}
use Rattle.site_worker.specs.Lives.{Life}
use Rattle.site_worker.specs.declared.console.Overseen.{Overseen}
use Rattle.site_worker.specs.declared.door.Attended.{Attended}
use Rattle.site_run.specs.Places.{AllIdle, PlacesAre}
use Rattle.site_run.specs.Rows.{ChairsAre, WorksAs}
use Rattle.site_run.specs.Tied.{AllBegin, LifeBegins, SeatsOf}
use Rattle.okws_serve.specs.Doors.{any_starved}
use Rattle.okws_serve.specs.Opened.{OpensFirst, ShowsFirst}
use Rattle.okws_serve.specs.Posts.{DoorIs, ConsoleIs, AttendedBy, Concludes, WorksAt}
use Rattle.okws_serve.specs.declared.outfit.Ending.{Ending}
use Rattle.okws_serve.specs.declared.post.Post.{Post}
use Rattle.okws_serve.specs.declared.post.Post.TheVariants.{Door, Console}

-- A worker of this number at its door, which it did not attend yet; it draws numbers from this board, below `most`.
pub record IsManned (t : TurnIs) (z : TableId) (most k : ℕ) (d : DoorIs) : Type 0 where
  pub works : WorksAs t k d.life
  pub place_is : IsFresh z k d.place
  pub most_is : d.most ≡ most
  pub none : d.attended ≡ None

-- The same at posts at doors alone; the numbers fall by one, to `last` at the end.
abbrev pub AreManned : TurnIs → TableId → ℕ → ℕ → List (Post DoorIs ConsoleIs) → Type 0
AreManned t z most last [] = Unit {0}
AreManned t z most last (Door d ∷ ps) = IsManned t z most (length ps + last) d × AreManned t z most last ps
AreManned t z most last (Console c ∷ ps) = ⊥

-- The workers at doors among these posts, the last one first.
abbrev pub doors_of : List (Post DoorIs ConsoleIs) → List DoorIs
doors_of [] = []
doors_of (Door d ∷ ps) = doors_of ps ++ d ∷ []
doors_of (Console c ∷ ps) = doors_of ps

-- The lives of the workers at these doors.
abbrev pub lives_of : List DoorIs → List Life
lives_of ds = map (λ (d : DoorIs). d.life) ds

-- Posts of a run: a worker at each of these doors, which it did not attend yet, and after them one at the console, of which no line was read; it has the next number, also at the board. They have these seats.
pub record ArePosted (t : TurnIs) (z : TableId) (most : ℕ) (chairs : ChairsAre) (entrances : List Entrance) (wire : ConnWire) (posts : List (Post DoorIs ConsoleIs)) : Type 0 where
  pub doors : List (Post DoorIs ConsoleIs)
  pub console : ConsoleIs
  pub posts_are : posts ≡ doors ++ Console console ∷ []
  pub manned : AreManned t z most 0 doors
  pub entrances_are : map (λ (d : DoorIs). d.entrance) (doors_of doors) ≡ entrances
  pub many : length doors ≡ length entrances
  pub works : WorksAs t (length entrances) console.life
  pub wire_is : console.wire ≡ wire
  pub first : console.lines ≡ 0
  pub place_is : IsFresh z (length entrances) console.place
  pub most_is : console.most ≡ most
  pub none : console.ended ≡ None
  pub seats : SeatsOf (lives_of (doors_of doors) ++ console.life ∷ []) chairs

-- These are posts at doors alone, which were attended.
abbrev pub AllDone : List (Post DoorIs ConsoleIs) → Type 0
AllDone [] = Unit {0}
AllDone (Door d ∷ ps) = IsSome d.attended × AllDone ps
AllDone (Console c ∷ ps) = ⊥

-- The workers at these doors have numbers that fall by one, to `last` at the end.
abbrev pub AreAt : TurnIs → ℕ → List (Post DoorIs ConsoleIs) → Type 0
AreAt t last [] = Unit {0}
AreAt t last (Door d ∷ ps) = WorksAs t (length ps + last) d.life × AreAt t last ps
AreAt t last (Console c ∷ ps) = ⊥

-- What was to do at each of these posts is done.
abbrev pub AllWork : {X : Type 0} → (X → ConnWire) → Config → ℕ → List (Post DoorIs ConsoleIs) → List (Post DoorIs ConsoleIs) → Type 0
AllWork wire C n [] [] = Unit {0}
AllWork wire C n [] (q ∷ qs) = ⊥
AllWork wire C n (p ∷ ps) [] = ⊥
AllWork wire C n (p ∷ ps) (q ∷ qs) = WorksAt wire C n p q × AllWork wire C n ps qs

-- How a door was attended, if it was.
abbrev pub attended_of : List DoorIs → List Attended
attended_of [] = []
attended_of (d ∷ ds) = option_to_list d.attended ++ attended_of ds

-- How many connections were served.
abbrev pub served_of : List Attended → ℕ
served_of [] = 0
served_of (a ∷ as') = a.connections + served_of as'

-- Workers attended doors, to which they came fresh, with seats at this board whose numbers rise by one from k.
abbrev pub AllAttended : {X : Type 0} → (X → ConnWire) → Config → ℕ → TableId → ℕ → ℕ → List DoorIs → List Attended → List DoorIs → Type 0
AllAttended wire C n z most k [] [] [] = Unit {0}
AllAttended wire C n z most k [] [] (e ∷ es) = ⊥
AllAttended wire C n z most k [] (a ∷ as') es = ⊥
AllAttended wire C n z most k (d ∷ ds) [] es = ⊥
AllAttended wire C n z most k (d ∷ ds) (a ∷ as') [] = ⊥
AllAttended wire C n z most k (d ∷ ds) (a ∷ as') (e ∷ es) =
    IsFresh z k d.place × (d.most ≡ most) × AttendedBy wire C n d a e × AllAttended wire C n z most (suc k) ds as' es

-- All doors of a run were attended, by workers whose lives began there and are these now, and that drew numbers below `most` from this board: so many connections were served, and memory was refused to a worker or not.
pub record DoorsDone {X : Type 0} (wire : X → ConnWire) (C : Config) (n : ℕ) (z : TableId) (most : ℕ) (lives : List Life) (old new : PlacesAre) (connections : ℕ) (starved : Bool) : Type 0 where
  pub before : List DoorIs
  pub attended : List Attended
  pub after : List DoorIs
  pub begin : AllBegin C n 0 (lives_of before)
  pub each : AllAttended wire C n z most 0 before attended after
  pub lives_are : lives ≡ lives_of after
  pub old_is : old.entrances ≡ map (λ (d : DoorIs). d.entrance) before
  pub new_is : new.entrances ≡ map (λ (d : DoorIs). d.entrance) after
  pub places_are : new.places ≡ map (λ (d : DoorIs). d.place) after
  pub connections_are : connections ≡ capped (served_of attended)
  pub starved_is : starved ≡ any_starved attended
  pub idle : AllIdle new.entrances

-- A console was overseen from its first line, by a worker of number w whose life began there and is this now, with a seat of that number at this board, from which nothing was drawn before. Number n launches.
pub record ConsoleDone (C : Config) (n w : ℕ) (z : TableId) (most : ℕ) (life : Life) (old new : ConnWire) (now : Place) (e : Ending) : Type 0 where
  pub lines : ℕ
  pub before : Life
  pub mid : ConnWire
  pub how : Overseen
  pub place : Place
  pub begins : LifeBegins C n w before
  pub oversees : Oversees C old mid 0 lines before life how
  pub place_is : IsFresh z w place
  pub concludes : Concludes most how mid new place now e

-- All workers of a run left their posts, at the doors and at the console, and these are the seats of their lives. The first of these lives began with the first launches of all services; what came up in them stands among these entries of okd, before any that a worker made.
pub record WorkDone {X : Type 0} (wire : X → ConnWire) (C : Config) (n : ℕ) (z : TableId) (most : ℕ) (chairs : ChairsAre) (entries : List (Entry OkdEvent)) (old new : PlacesAre) (before after : ConnWire) (connections : ℕ) (starved : Bool) (now : Place) (e : Ending) : Type 0 where
  pub lives : List Life
  pub last : Life
  pub seats : SeatsOf (lives ++ last ∷ []) chairs
  pub doors : DoorsDone wire C n z most lives old new connections starved
  pub opened : OpensFirst C (length old.entrances + 1) (lives_of doors.before)
  pub shown : ShowsFirst C n (length old.entrances + 1) entries (lives_of doors.before)
  pub console : ConsoleDone C n (length old.entrances) z most last before after now e
