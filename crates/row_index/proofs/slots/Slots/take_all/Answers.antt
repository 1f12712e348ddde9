use Rattle.std.specs.Ordering.{is_eq}
use Rattle.row_index.specs.Slots.{slot_cmp}
use Rattle.row_index.specs.declared.slot.Slot.{Slot}
use Rattle.row_index.proofs.Bools.{taken_more}
use Rattle.row_index.proofs.Runs.{any_with_next}
use Rattle.row_index.proofs.slots.Slots.take_all.Goals as goal

pub loop-slot-preserved : goal.loop-slot-preserved
loop-slot-preserved c = λ q.
    taken_more _ _ _ _ _ _
    (any_with_next (λ (s : Slot). is_eq (slot_cmp s q)) c.args.slots.now c.loop-slot.slot-index c.slot-item.result c.loop-slot-test.true c.slot-item.is)
    (c.take.ensures q)
    (c.loop-slot.invariant q)
