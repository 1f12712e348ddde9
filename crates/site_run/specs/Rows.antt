-- The seats of a run's workers in rows, by their numbers.
use Rattle.std.specs.Prelude.{◌≡◌, ◌≤◌, ℕ, suc, List, [], ◌∷◌, length}
use Rattle.turn_lock.specs.Rows.{RestsAt}
use Rattle.turn_lock.specs.Seats.{TurnIs, SeatIs}
use Rattle.site_cells.specs.Row.{CellsSeen}
use Rattle.site_locks.specs.Sat.{Sat}
use Rattle.site_worker.specs.Lives.{Life, number_of}
use Rattle.launch_turns.specs.declared.deed.Deed.{Deed}

-- The seats of numbers in a row, and for how many there is room.
pub record ChairsAre : Type 0 where
  pub seats : List Sat
  pub cells : List CellsSeen
  pub turns : List (SeatIs Deed)
  pub seats_room : ℕ
  pub cells_room : ℕ
  pub turns_room : ℕ

-- The seats of number k at the columns, at so many cells and at the launcher's lock, where it rests.
pub record IsChair (t : TurnIs) (cells k : ℕ) (s : Sat) (c : CellsSeen) (a : SeatIs Deed) : Type 0 where
  pub sat_number : s.number ≡ k
  pub cells_number : c.number ≡ k
  pub cells_are : length c.cells ≡ cells
  pub seat_number : a.number ≡ k
  pub rests : RestsAt t a

-- The same of numbers that rise by one from k.
abbrev pub AreChairs : TurnIs → ℕ → ℕ → List Sat → List CellsSeen → List (SeatIs Deed) → Type 0
AreChairs t cells k [] [] [] = Unit {0}
AreChairs t cells k [] [] (a ∷ as') = ⊥
AreChairs t cells k [] (c ∷ cs) as' = ⊥
AreChairs t cells k (s ∷ ss) [] as' = ⊥
AreChairs t cells k (s ∷ ss) (c ∷ cs) [] = ⊥
AreChairs t cells k (s ∷ ss) (c ∷ cs) (a ∷ as') = IsChair t cells k s c a × AreChairs t cells (suc k) ss cs as'

-- The same of numbers from 0 on.
abbrev pub Seated : TurnIs → ℕ → ChairsAre → Type 0
Seated t cells x = AreChairs t cells 0 x.seats x.cells x.turns

-- How many items the first of these numbers may note without memory.
abbrev pub spare_first : List Sat → ℕ
spare_first [] = 0
spare_first (s ∷ ss) = s.spare

-- The same of number 0.
abbrev pub first_spare : ChairsAre → ℕ
first_spare x = spare_first x.seats

-- There is room for so many numbers.
pub record Spacious (many : ℕ) (x : ChairsAre) : Type 0 where
  pub seats : many ≤ x.seats_room
  pub cells : many ≤ x.cells_room
  pub turns : many ≤ x.turns_room

-- There is as much room as before.
pub record SameRoom (x y : ChairsAre) : Type 0 where
  pub seats : y.seats_room ≡ x.seats_room
  pub cells : y.cells_room ≡ x.cells_room
  pub turns : y.turns_room ≡ x.turns_room

-- A worker of number k, whose seat at this lock of the launcher rests.
pub record WorksAs (t : TurnIs) (k : ℕ) (J : Life) : Type 0 where
  pub number_is : number_of J ≡ k
  pub seat_number : J.launcher.number ≡ k
  pub rests : RestsAt t J.launcher
