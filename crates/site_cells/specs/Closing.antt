-- Closing the locks of a site's cells with the seats of all numbers.
use Rattle.std.specs.Prelude.{◌≡◌, ◌⊎◌, ℕ, List, [], ◌∷◌, map}
use Rattle.okws_base.specs.Turns.{GrowsBy}
use Rattle.monitor_model.specs.declared.record.CellEvent.{CellEvent}
use Rattle.site_cells.specs.Held.{by_event, events_in}
use Rattle.turn_lock.specs.Seats.{SeatIs, Sight}
use Rattle.turn_lock.specs.Rows.{RowHas, GrownRow}
use Rattle.site_cells.specs.Row.{CellsSeen}

-- A number, and what it has seen of the events of a cell, by what it has seen of what was entered.
abbrev pub cell_sight : Sight CellEvent → Sight CellEvent
cell_sight m = record m { seen = events_in m.seen }

-- The same of a seat, and of those that were joined into it.
abbrev pub cell_seat : SeatIs CellEvent → SeatIs CellEvent
cell_seat a = record a { seen = events_in a.seen; olds = map cell_sight a.olds }

-- The events of each cell go on from what number n had seen there by events of others alone. Number k launches.
abbrev pub CellsGrow : ℕ → ℕ → List (List CellEvent) → List (List CellEvent) → Type 0
CellsGrow k n [] [] = Unit {0}
CellsGrow k n [] (J ∷ Js) = ⊥
CellsGrow k n (I ∷ Is) [] = ⊥
CellsGrow k n (I ∷ Is) (J ∷ Js) = GrowsBy (by_event k) n I J × CellsGrow k n Is Js

-- They do for each of these numbers.
abbrev pub AllCellsGrow : ℕ → List CellsSeen → List (List CellEvent) → Type 0
AllCellsGrow k [] Js = Unit {0}
AllCellsGrow k (a ∷ as') Js = CellsGrow k a.number a.cells Js × AllCellsGrow k as' Js

-- One of them has the number.
abbrev pub HasNumber : ℕ → List CellsSeen → Type 0
HasNumber n [] = ⊥
HasNumber n (a ∷ as') = (a.number ≡ n) ⊎ HasNumber n as'

-- Of the seats `all`, those of `left` are still to be joined, and `ends` took in the others.
pub record Joining (k : ℕ) (all left : List CellsSeen) (ends : List (SeatIs CellEvent)) : Type 0 where
  pub told : (Js : List (List CellEvent)) → GrownRow (by_event k) ends Js → AllCellsGrow k left Js → AllCellsGrow k all Js
  pub numbers : (n : ℕ) → HasNumber n all → RowHas n ends ⊎ HasNumber n left
