-- The doors of a run, and the seats from which their workers draw numbers.
use Rattle.std.specs.Prelude.{◌≡◌, ◌≤◌, ℕ, List, [], ◌∷◌, length, IsNone}
use Rattle.atomic_table.specs.Seated.{TableId}
use Rattle.okws_outer.specs.Doors.{Entrance}
use Rattle.turn_lock.specs.BoardSeats.{AreRising}
use Rattle.turn_lock.specs.BoardSeats.{SeatIs as Place}

-- No connection is out at any of these doors.
abbrev pub AllIdle : List Entrance → Type 0
AllIdle [] = Unit {0}
AllIdle (e ∷ es) = IsNone e.out × AllIdle es

-- The doors of a run, and the seats from which their workers draw numbers; and for how many there is room.
pub record PlacesAre : Type 0 where
  pub entrances : List Entrance
  pub places : List Place
  pub doors_room : ℕ
  pub desks_room : ℕ

-- Doors at which no connection is out, each with a seat at this board from which no number was drawn; their numbers rise by one from 0.
pub record Placed (z : TableId) (x : PlacesAre) : Type 0 where
  pub idle : AllIdle x.entrances
  pub fresh : AreRising z 0 x.places
  pub alike : length x.places ≡ length x.entrances

-- There is room for so many.
pub record HasPlaces (many : ℕ) (x : PlacesAre) : Type 0 where
  pub doors : many ≤ x.doors_room
  pub desks : many ≤ x.desks_room

-- There is as much room as before.
pub record SamePlaces (x y : PlacesAre) : Type 0 where
  pub doors : y.doors_room ≡ x.doors_room
  pub desks : y.desks_room ≡ x.desks_room
