-- A run between its beginning and its end. Number n launches; the doors' workers and the console's have the numbers below it.
use Rattle.std.specs.Prelude.{◌≡◌, ◌≤◌, ◌<◌, ℕ, suc, ◌+◌, ◌*◌, List, [], ◌∷◌, length}
use Rattle.okws_base.specs.declared.limit.TheConstants.{MOST_DOORS}
use Rattle.turn_lock.specs.Board.{drawn_by, UpTo}
use Rattle.turn_lock.specs.BoardSeats.{BoardIs, AllAt}
use Rattle.turn_lock.specs.BoardSeats.{SeatIs as Place}
use Rattle.okws_plan.specs.declared.configuration.Config.{Config}
use Rattle.site_cells.specs.Row.{CellsSeen, IsNew}
use Rattle.site_locks.specs.Made.{AreFreshFrom}
use Rattle.site_locks.specs.Sat.{Sat}
use Rattle.turn_lock.specs.Rows.{AllCount}
use Rattle.turn_lock.specs.Seats.{TurnIs}
use Rattle.site_worker.specs.declared.worker.TheConstants.{TURN_ITEMS}
use Rattle.site_run.specs.Rows.{ChairsAre, Seated, first_spare}
use Rattle.site_run.specs.Places.{PlacesAre, HasPlaces, Placed}
use Rattle.site_run.specs.Opening.{IsUnopened}
use Rattle.site_run.specs.Tied.{Unused}

-- Seats at so many cells, of which nothing was seen, of numbers that rise by one from k.
abbrev pub AreNewFrom : ℕ → ℕ → List CellsSeen → Type 0
AreNewFrom cells k [] = Unit {0}
AreNewFrom cells k (a ∷ as') = IsNew cells k a × AreNewFrom cells (suc k) as'

-- Fresh seats of all numbers at the locks of a site's columns and cells.
pub record AreNamed (C : Config) (n : ℕ) (cell_turns : List TurnIs) (seats : List Sat) (at_cells : List CellsSeen) (seats_room cells_room : ℕ) : Type 0 where
  pub seats_fresh : AreFreshFrom (length C.proxies) 0 seats
  pub seats_many : length seats ≡ n + 1
  pub seats_roomy : n + 1 ≤ seats_room
  pub cells_new : AreNewFrom (length C.services) 0 at_cells
  pub cells_many : length at_cells ≡ n + 1
  pub cells_roomy : n + 1 ≤ cells_room
  pub counts : AllCount (n + 1) cell_turns
  pub services : length cell_turns ≡ length C.services

-- The seats of all workers are at hand, and there is room for the launcher's at the columns and at the cells; the locks and the board were made for just these numbers.
pub record IsHeld (C : Config) (n : ℕ) (turn : TurnIs) (numbers : BoardIs) (cell_turns : List TurnIs) (chairs : ChairsAre) (places : PlacesAre) : Type 0 where
  pub seated : Seated turn (length C.services) chairs
  pub seats_many : length chairs.seats ≡ n
  pub seats_roomy : n + 1 ≤ chairs.seats_room
  pub cells_roomy : n + 1 ≤ chairs.cells_room
  pub doors_many : length places.entrances + 1 ≡ n
  pub some : 0 < length places.entrances
  pub few : length places.entrances ≤ MOST_DOORS
  pub places_many : length places.places ≡ length places.entrances
  pub places_at : AllAt numbers.id places.places
  pub turn_count : turn.count ≡ n
  pub numbers_count : numbers.count ≡ n
  pub cells_count : AllCount (n + 1) cell_turns
  pub services : length cell_turns ≡ length C.services

-- The same before the workers began, with room for what they take, and for what number 0 notes when the services are launched.
pub record IsReady (C : Config) (n : ℕ) (turn : TurnIs) (numbers : BoardIs) (cell_turns : List TurnIs) (chairs : ChairsAre) (places : PlacesAre) : Type 0 where
  pub held : IsHeld C n turn numbers cell_turns chairs places
  pub unused : Unused C chairs
  pub unopened : IsUnopened chairs
  pub spare : length C.services * TURN_ITEMS ≤ first_spare chairs
  pub turns_roomy : n ≤ chairs.turns_room
  pub placed : Placed numbers.id places
  pub roomy : HasPlaces (length places.entrances) places

-- Each of these seats drew just the numbers below the count that `hand` tells of it.
abbrev pub AllDrewAt : (ℕ → ℕ) → ℕ → List Place → Type 0
AllDrewAt hand count [] = Unit {0}
AllDrewAt hand count (a ∷ as') = (a.drawn ≡ drawn_by hand a.number count) × AllDrewAt hand count as'

-- Each of these seats has seen no more than these on the board.
abbrev pub AllSawAt : List ℕ → List Place → Type 0
AllSawAt greatest [] = Unit {0}
AllSawAt greatest (a ∷ as') = UpTo a.seen greatest × AllSawAt greatest as'

-- The numbers below the count were drawn from these seats, whose numbers are below n, each from one. What any of them has seen on the board was written from the last of all.
pub record AllDrawn (n : ℕ) (places : List Place) (last : Place) : Type 0 where
  pub hand : ℕ → ℕ
  pub count : ℕ
  pub drew : AllDrewAt hand count places
  pub drew_last : last.drawn ≡ drawn_by hand last.number count
  pub seated : (k : ℕ) → k < count → hand k < n
  pub greatest : List ℕ
  pub saw : AllSawAt greatest places
  pub saw_last : suc last.number ≡ n → last.seen ≡ greatest
