use Rattle.std.proofs.Common.{◌≡◌, take, Some, None}
use Rattle.std.specs.Prelude.{◌||◌}
use Rattle.row_index.specs.Slots.{holds}
use Rattle.row_index.specs.Changes.{comes}
use Rattle.row_index.specs.declared.slot.Slot.{Slot}
use Rattle.row_index.proofs.cells.put_cells.Given as goal

abbrev pub invariant-loop-i : goal.invariant-loop-i
invariant-loop-i l = record {
  values : l.values ≡ l.initial.values;
  slots : (q : Slot) → holds l.slots q ≡ (comes (take l.i l.columns) l.place None (Some l.initial.values) q || holds l.initial.slots q);
}
