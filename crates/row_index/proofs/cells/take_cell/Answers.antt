use Rattle.std.proofs.Common.{◌∙◌, ap, Bool, List}
use Rattle.std.specs.Prelude.{◌&&◌, not, slice_set}
use Rattle.std.specs.Ordering.{is_eq}
use Rattle.okws_base.specs.declared.value.Value.{Value}
use Rattle.row_index.specs.Slots.{slot_cmp, holds}
use Rattle.row_index.specs.declared.slot.Slot.{Slot}
use Rattle.okws_plan.specs.Meaning.{at_column, nothing}
use Rattle.row_index.proofs.Moved.{slot_is}
use Rattle.row_index.proofs.Taken.{undisturbed}
use Rattle.row_index.proofs.cells.take_cell.Goals as goal

pub returns-clause-values : goal.returns-clause-values
returns-clause-values c =
    c.slot_back.ensures
    ∙ ap (λ (values : List Value). slice_set values c.slot_out-slot.result.group.column c.slot_out-slot.result.group.value) c.slot_out-slot.ensures.rest
    ∙ ap (λ (s : Slot). slice_set (slice_set c.args.values.now c.args.column nothing) s.group.column s.group.value) c.slot_out-slot.ensures.slot
    ∙ undisturbed c.args.values.now c.args.column

pub returns-clause-slots : goal.returns-clause-slots
returns-clause-slots c = λ (q : Slot).
    c.take.ensures q
    ∙ ap (λ (s : Slot). not (is_eq (slot_cmp s q)) && holds c.args.slots.now q) c.slot_out-slot.ensures.slot
    ∙ ap (λ (b : Bool). not b && holds c.args.slots.now q) (slot_is c.args.column c.args.place (at_column c.args.values.now c.args.column) q)
