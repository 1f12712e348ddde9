-- What a number has seen at one cell, as it hands it to another.
use Rattle.std.specs.Prelude.{◌≡◌, ◌<◌, ℕ, List, length, slice_index_or}
use Rattle.monitor_model.specs.declared.record.CellEvent.{CellEvent}
use Rattle.turn_lock.specs.Seats.{TurnIs, NoteIs}

-- A service, and what was seen at its cell.
pub record CellNoteIs : Type 0 where
  pub service : ℕ
  pub seen : List CellEvent

-- A note of the lock that stands for service s among these.
pub record IsNoteAt (names : List TurnIs) (s : ℕ) (n : NoteIs CellEvent) : Type 0 where
  pub within : s < length names
  pub here : (t : TurnIs) → t ≡ slice_index_or names s t → n.lock ≡ t.id
