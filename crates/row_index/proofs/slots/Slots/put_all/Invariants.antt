use Rattle.std.proofs.Common.{◌≡◌, take}
use Rattle.std.specs.Prelude.{◌||◌}
use Rattle.row_index.specs.Slots.{holds, has_slot}
use Rattle.row_index.specs.declared.slot.Slot.{Slot}
use Rattle.row_index.proofs.slots.Slots.put_all.Given as goal

abbrev pub invariant-loop-i : goal.invariant-loop-i
invariant-loop-i l = (q : Slot) → holds l.self q ≡ (has_slot (take l.i l.slots) q || holds l.initial.self q)
