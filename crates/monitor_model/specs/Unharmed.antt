-- When nothing was cut short by a link that failed or for want of memory.
use Rattle.std.specs.Prelude.{ℕ, Bool, true, false, List, IsFalse}
use Rattle.std.specs.List.{list_any}
use Rattle.okws_base.specs.Runs.{Each}
use Rattle.monitor_model.specs.declared.record.CellEvent.{CellEvent}
use Rattle.monitor_model.specs.declared.record.CellEvent.TheVariants as cell
use Rattle.monitor_model.specs.declared.record.End.{End}
use Rattle.monitor_model.specs.declared.record.End.TheVariants as end
use Rattle.monitor_model.specs.declared.record.Own.{Own}
use Rattle.monitor_model.specs.declared.record.Own.TheVariants as own
use Rattle.monitor_model.specs.declared.record.Record.{Record}
use Rattle.monitor_model.specs.Merged.{cell_past}

-- A dialog ended by a fault of its link, or for want of memory.
abbrev pub is_harm : End → Bool
is_harm end.LinkFault = true
is_harm end.Starved = true
is_harm end.Reply = false
is_harm (end.Superseded shown) = false
is_harm end.BadFrame = false
is_harm end.Ended = false
is_harm end.FrameLimit = false

-- An event of a cell is no dialog that ended so.
abbrev pub IsHarmless : CellEvent → Type 0
IsHarmless (cell.Dialog d) = IsFalse (is_harm d.end)
IsHarmless (cell.Boot k) = Unit {0}
IsHarmless cell.Retired = Unit {0}
IsHarmless (cell.Missed worker wanted is) = Unit {0}
IsHarmless (cell.Speaking worker items) = Unit {0}

-- The item is NoMemory.
abbrev pub is_wanting : Own → Bool
is_wanting own.NoMemory = true
is_wanting _ = false

-- No dialog ended by a fault of its link or for want of memory, and no item of a worker's list is NoMemory.
pub record IsUnharmed (R : Record) : Type 0 where
  pub cells : (s : ℕ) → Each IsHarmless (cell_past R s)
  pub workers : IsFalse (list_any (λ (items : List Own). list_any is_wanting items) R.workers)
