use Rattle.std.proofs.Common.{◌≡◌, take}
use Rattle.std.specs.List.{list_any}
use Rattle.row_index.specs.Places.{row_at}
use Rattle.row_index.specs.Slots.{has_slot}
use Rattle.row_index.specs.Changes.{comes_with, goes_with}
use Rattle.row_index.specs.declared.slot.Slot.{Slot}
use Rattle.row_index.specs.declared.changing.Change.{Change}
use Rattle.row_index.proofs.changing.moves_of.Given as goal

abbrev pub invariant-loop-change : goal.invariant-loop-change
invariant-loop-change l = record {
  coming : (q : Slot) → has_slot l.moves.coming.items q ≡ list_any (λ (ch : Change). comes_with l.columns (row_at l.rows.entries ch.place) ch q) (take l.change-index l.changes);
  going : (q : Slot) → has_slot l.moves.going.items q ≡ list_any (λ (ch : Change). goes_with l.columns (row_at l.rows.entries ch.place) ch q) (take l.change-index l.changes);
}
