-- The locks of a site's cells before they have names.
use Rattle.std.specs.Prelude.{◌≡◌, ◌≤◌, ℕ, ◌+◌, List, reverse, length}
use Rattle.monitor_model.specs.declared.record.CellEvent.{CellEvent}
use Rattle.turn_lock.specs.Seats.{TurnIs, SeatIs}
use Rattle.turn_lock.specs.Rows.{FreshRows}
use Rattle.site_cells.specs.Row.{CellsSeen, AreCells, AreNew}

-- The locks, and for how many numbers there are seats.
pub record NewCellsAre : Type 0 where
  pub turns : List TurnIs
  pub numbers : ℕ

-- Locks of cells, a gate for each, and rows of seats that have seen nothing.
pub record AreMade (ts : List TurnIs) (gates : ℕ) (rows : List (List (SeatIs CellEvent))) : Type 0 where
  pub cells : AreCells ts
  pub gated : gates ≡ length ts
  pub fresh : FreshRows ts 0 rows
  pub few : length rows ≤ 65535

-- The rows are named from their end: those of `left` have no names yet, and `done` were named, in order of their numbers.
pub record Naming (ts : List TurnIs) (rows : ℕ) (left : List (List (SeatIs CellEvent))) (done : List CellsSeen) (number : ℕ) : Type 0 where
  pub fresh : FreshRows ts number left
  pub named : AreNew (length ts) 0 (reverse done)
  pub number_is : number ≡ length done
  pub count_is : length left + length done ≡ rows
