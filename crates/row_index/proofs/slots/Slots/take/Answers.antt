use Rattle.std.proofs.Common.{◌∙◌}
use Rattle.row_index.specs.declared.slot.Slot.{Slot}
use Rattle.row_index.proofs.Grouped.{none_left}
use Rattle.row_index.proofs.slots.Slots.take.Goals as goal

pub returns-then-take_place : goal.returns-then-take_place
returns-then-take_place c = λ (q : Slot).
    none_left c.take_place.new.self (record { groups = c.remove.new.self }) c.args.slot.now.group (record { at = c.remove.ensures.updates.0 }) q
    ∙ c.take_place.ensures.last c.if-take_place.true q

pub returns-else-take_place : goal.returns-else-take_place
returns-else-take_place c = c.take_place.ensures.left c.if-take_place.false
