use Rattle.std.proofs.Common.{◌≡◌, take, Some, None}
use Rattle.std.specs.Prelude.{◌&&◌, not}
use Rattle.row_index.specs.Slots.{holds}
use Rattle.row_index.specs.Changes.{comes}
use Rattle.row_index.specs.declared.slot.Slot.{Slot}
use Rattle.row_index.proofs.cells.take_cells.Given as goal

abbrev pub invariant-loop-column : goal.invariant-loop-column
invariant-loop-column l = record {
  values : l.values ≡ l.initial.values;
  slots : (q : Slot) → holds l.slots q ≡ (not (comes (take l.column-index l.columns) l.place None (Some l.initial.values) q) && holds l.initial.slots q);
}
