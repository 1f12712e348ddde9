use Rattle.std.proofs.Common.{◌≡◌, take}
use Rattle.std.specs.Prelude.{◌&&◌, not}
use Rattle.row_index.specs.Slots.{holds, has_slot}
use Rattle.row_index.specs.declared.slot.Slot.{Slot}
use Rattle.row_index.proofs.slots.Slots.take_all.Given as goal

abbrev pub invariant-loop-slot : goal.invariant-loop-slot
invariant-loop-slot l = (q : Slot) → holds l.self q ≡ (not (has_slot (take l.slot-index l.slots) q) && holds l.initial.self q)
