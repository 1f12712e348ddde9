use Rattle.std.proofs.Common.{◌≡◌, take}
use Rattle.std.specs.Prelude.{◌||◌}
use Rattle.std.specs.Option.{option_copied}
use Rattle.row_index.specs.Slots.{has_slot}
use Rattle.row_index.specs.Changes.{comes, goes}
use Rattle.row_index.specs.declared.slot.Slot.{Slot}
use Rattle.row_index.proofs.changing.Moves.note.Given as goal

abbrev pub invariant-loop-column : goal.invariant-loop-column
invariant-loop-column l = record {
  coming : (q : Slot) → has_slot l.self.coming.items q ≡ (has_slot l.initial.self.coming.items q || comes (take l.column-index l.columns) l.place (option_copied l.old) (option_copied l.new) q);
  going : (q : Slot) → has_slot l.self.going.items q ≡ (has_slot l.initial.self.going.items q || goes (take l.column-index l.columns) l.place (option_copied l.old) (option_copied l.new) q);
}
