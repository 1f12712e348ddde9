use Rattle.std.proofs.Common.{ap}
use Rattle.row_index.specs.GroupPlaces.{places_if_any}
use Rattle.row_index.proofs.Grouped.{none_left}
use Rattle.row_index.proofs.slots.Slots.take_group.Goals as goal

pub returns-clause-places : goal.returns-clause-places
returns-clause-places c = ap places_if_any c.remove.ensures.value

pub returns-clause-slots : goal.returns-clause-slots
returns-clause-slots c = none_left c.args.self.now (record { groups = c.remove.new.self }) c.args.group.now (record { at = c.remove.ensures.updates.0 })
