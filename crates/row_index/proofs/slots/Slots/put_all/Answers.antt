use Rattle.std.specs.Ordering.{is_eq}
use Rattle.row_index.specs.Slots.{slot_cmp}
use Rattle.row_index.specs.declared.slot.Slot.{Slot}
use Rattle.row_index.proofs.Bools.{put_more, undone}
use Rattle.row_index.proofs.Runs.{any_in_front, any_with_next}
use Rattle.row_index.proofs.slots.Slots.put_all.Goals as goal

pub returns-in-Err-clause-err : goal.returns-in-Err-clause-err
returns-in-Err-clause-err c = λ q.
    undone _ _ _ _ _
    (c.take_all.ensures q)
    (c.in-Err.ensures.err q)
    (c.loop-i.invariant q)
    (λ h. c.requires.fresh q (any_in_front (λ (s : Slot). is_eq (slot_cmp s q)) c.args.slots.now c.loop-i.i h))

pub loop-i-preserved : goal.loop-i-preserved
loop-i-preserved c = λ q.
    put_more _ _ _ _ _ _
    (any_with_next (λ (s : Slot). is_eq (slot_cmp s q)) c.args.slots.now c.loop-i.i c.index-slots-i.result c.loop-i-test.true c.index-slots-i.is)
    (c.in_default.ensures.ok q)
    (c.loop-i.invariant q)
