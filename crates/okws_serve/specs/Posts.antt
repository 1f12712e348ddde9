-- Workers at their posts as contracts see them.
use Rattle.std.specs.Prelude.{◌≡◌, ◌≤◌, ◌+◌, ℕ, min, Bool, true, false, List, [], ◌++◌, Some, None, IsNone, length, slice_index, slice_set}
use Rattle.std.specs.declared.option.Option.{Option}
use Rattle.atomic_table.specs.Seated.{TableId}
use Rattle.turn_lock.specs.Board.{from_on, most_drawn}
use Rattle.turn_lock.specs.BoardSeats.{BoardIs, SeatIs}
use Rattle.okws_base.specs.declared.limit.TheConstants.{MOST_SERVICES, MOST_TEMPLATES}
use Rattle.okws_outer.specs.Conns.{ConnWire}
use Rattle.okws_outer.specs.Doors.{Entrance}
use Rattle.okws_plan.specs.declared.configuration.Config.{Config}
use Rattle.admin_console.specs.Steps.{Tells}
use Rattle.admin_console.specs.declared.answer.Answer.TheVariants as answer
use Rattle.admin_console.specs.declared.step.Stepped.{Stepped}
use Rattle.admin_console.specs.declared.step.Stepped.TheVariants as stepped
use Rattle.site_worker.specs.Commands.{Oversees}
use Rattle.site_worker.specs.Lives.{Life, SameWorker}
use Rattle.site_worker.specs.Rounds.{Attends}
use Rattle.site_worker.specs.declared.console.Overseen.{Overseen}
use Rattle.site_worker.specs.declared.console.Overseen.TheVariants as overseen
use Rattle.site_worker.specs.declared.door.TheConstants.{STOPPED}
use Rattle.site_worker.specs.declared.door.Attended.{Attended}
use Rattle.okws_serve.specs.declared.outfit.Ending.{Ending}
use Rattle.okws_serve.specs.declared.outfit.TheConstants.{MOST_BEGUN}
use Rattle.okws_serve.specs.declared.post.Post.{Post}
use Rattle.okws_serve.specs.declared.post.Post.TheVariants.{Door, Console}

-- A worker at its door: the door, the seat from which numbers are drawn and the limit of these, what the worker has seen, and how it attended the door, once that is done.
pub record DoorIs : Type 0 where
  pub entrance : Entrance
  pub place : SeatIs
  pub most : ℕ
  pub life : Life
  pub attended : Option Attended

-- No number was drawn before the door is attended.
abbrev pub IsFresh : Option Attended → List ℕ → Type 0
IsFresh None drawn = drawn ≡ []
IsFresh (Some a) drawn = Unit {0}

-- No connection is out at the door, and numbers are drawn from this board.
pub record IsDoor (z : TableId) (d : DoorIs) : Type 0 where
  pub idle : IsNone d.entrance.out
  pub board_is : d.place.board ≡ z
  pub few : d.most ≤ MOST_BEGUN
  pub fresh : IsFresh d.attended d.place.drawn

-- A worker at the console: the console, how many of its lines were read, what the worker has seen, its seat at the board of the connections' numbers and the limit of these, and how the console ended, once that is done.
pub record ConsoleIs : Type 0 where
  pub wire : ConnWire
  pub lines : ℕ
  pub life : Life
  pub place : SeatIs
  pub most : ℕ
  pub ended : Option Ending

-- No stop is shown before the console is overseen.
abbrev pub IsCalm : Option Ending → List ℕ → Type 0
IsCalm None seen = slice_index seen STOPPED ≡ 0
IsCalm (Some e) seen = Unit {0}

-- The site is this one, and has no more services and templates than it may have.
pub record IsSteered (C site : Config) : Type 0 where
  pub site_is : site ≡ C
  pub services : length C.services ≤ MOST_SERVICES
  pub templates : length C.templates ≤ MOST_TEMPLATES

-- The console of this site, whose seat is the last one at this board.
pub record IsConsole (C site : Config) (numbers : BoardIs) (c : ConsoleIs) : Type 0 where
  pub steered : IsSteered C site
  pub board_is : c.place.board ≡ numbers.id
  pub last : c.place.number + 1 ≡ numbers.count
  pub calm : IsCalm c.ended c.place.seen

-- A door was attended. Number n launches.
pub record AttendedBy {X : Type 0} (wire : X → ConnWire) (C : Config) (n : ℕ) (old : DoorIs) (a : Attended) (new : DoorIs) : Type 0 where
  pub done : new.attended ≡ Some a
  pub attends : Attends wire C n old.most (slice_index new.place.seen STOPPED) old.entrance new.entrance old.life new.life old.place.drawn new.place.drawn a
  pub place_is : new.place ≡ record old.place { seen = new.place.seen; drawn = new.place.drawn }
  pub most_is : new.most ≡ old.most
  pub same : SameWorker old.life new.life

-- It was, where that wasn't done before.
abbrev pub AttendedIf : {X : Type 0} → (X → ConnWire) → Config → ℕ → DoorIs → Option Attended → DoorIs → Type 0
AttendedIf wire C n old None new = (a : Attended) × AttendedBy wire C n old a new
AttendedIf wire C n old (Some a) new = new ≡ old

-- A call of the console failed in a step.
abbrev pub is_cut : Stepped → Bool
is_cut (stepped.Answered a) = false
is_cut stepped.Finished = false
is_cut stepped.Stop = false
is_cut (stepped.ConsoleFault a) = true

-- What was left to do where a console was overseen so. Where it ended by `stop`, all numbers of connections that were left were drawn from its seat; that the run is stopped is shown at the board; and the line of the answer says how many had been drawn before, of those below the limit. Else nothing.
abbrev pub Concludes : ℕ → Overseen → ConnWire → ConnWire → SeatIs → SeatIs → Ending → Type 0
Concludes most overseen.Finished mid new place now e = (new ≡ mid) × (now ≡ place) × (e.stopped ≡ None) × (e.failed ≡ false)
Concludes most overseen.ConsoleFault mid new place now e = (new ≡ mid) × (now ≡ place) × (e.stopped ≡ None) × (e.failed ≡ true)
Concludes most overseen.Stop mid new place now e =
    (first : ℕ) × (now ≡ record place { seen = slice_set place.seen STOPPED 1; drawn = from_on first most_drawn ++ place.drawn }) × (e.stopped ≡ Some (min first most))
    × (what : Stepped) × Tells mid new (answer.Stopping (min first most)) what × (e.failed ≡ is_cut what)

-- A console was overseen.
pub record OverseenBy (C : Config) (old : ConsoleIs) (e : Ending) (new : ConsoleIs) : Type 0 where
  pub done : new.ended ≡ Some e
  pub mid : ConnWire
  pub how : Overseen
  pub oversees : Oversees C old.wire mid old.lines new.lines old.life new.life how
  pub concludes : Concludes old.most how mid new.wire old.place new.place e
  pub same : SameWorker old.life new.life

-- It was, where that wasn't done before.
abbrev pub OverseenIf : Config → ConsoleIs → Option Ending → ConsoleIs → Type 0
OverseenIf C old None new = (e : Ending) × OverseenBy C old e new
OverseenIf C old (Some e) new = new ≡ old

-- What was to do at a post is done.
abbrev pub WorksAt : {X : Type 0} → (X → ConnWire) → Config → ℕ → Post DoorIs ConsoleIs → Post DoorIs ConsoleIs → Type 0
WorksAt wire C n (Door old) (Door new) = AttendedIf wire C n old old.attended new
WorksAt wire C n (Door old) (Console new) = ⊥
WorksAt wire C n (Console old) (Door new) = ⊥
WorksAt wire C n (Console old) (Console new) = OverseenIf C old old.ended new
