-- What a cell keeps.
use Rattle.std.specs.Prelude.{◌≡◌, ◌≢◌, ◌≤◌, ℕ, Bool, true, [], Option, Some, None, IsFalse}
use Rattle.okws_base.specs.Kept.{Kept}
use Rattle.okws_base.specs.declared.limit.TheConstants.{MOST_FRAMES}
use Rattle.monitor_model.specs.declared.record.CellEvent.{CellEvent}
use Rattle.monitor_model.specs.Cell.{CellLaw, incarnation, is_speaking, last_booted}
use Rattle.monitor_model.specs.Course.{said_count}
use Rattle.service_cell.specs.Standing.{Open}
use Rattle.service_cell.specs.declared.dialog.Speaking.{Speaking}

-- An open dialog: the cell has an incarnation, and places for the dialog and for a Retired; the frames said are counted, and its last step has items.
abbrev pub IsTiedOpen : ℕ → ℕ → Option Speaking → Type 0
IsTiedOpen k room None = Unit {0}
IsTiedOpen k room (Some o) = (k ≢ 0) × (2 ≤ room) × (o.frames ≡ said_count o.items.past) × (o.frames ≤ MOST_FRAMES) × (o.items.newest ≢ [])

-- The open dialog of a cell, as contracts see it.
abbrev pub opened : Option Speaking → Option Open
opened None = None
opened (Some o) = Some (record { request = o.request; worker = o.worker; items = o.items.past; newest = o.items.newest })

-- The events keep the cell's law, the incarnation and the last one that was booted are theirs, and where there is one the cell has its link and a place for a Retired.
pub record Tied (k last : ℕ) (events : Kept CellEvent) (speaking : Option Speaking) (linked : Bool) : Type 0 where
  pub law : CellLaw events.past
  pub whole : IsFalse (is_speaking events.past)
  pub incarnation_is : k ≡ incarnation events.past
  pub last_is : last ≡ last_booted events.past
  pub linked_is : k ≢ 0 → linked ≡ true
  pub places : k ≢ 0 → 1 ≤ events.room
  pub open_is : IsTiedOpen k events.room speaking

-- What holds of a cell: its fields fit, and its links were given what its incarnations heard.
pub record IsCell (Fits Heard : Type 0) : Type 0 where
  pub tied : Fits
  pub heard : Heard
