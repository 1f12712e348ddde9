use Rattle.std.proofs.Common.{◌∙◌, ap}
use Rattle.row_index.specs.GroupPlaces.{places_if_any}
use Rattle.row_index.specs.Slots.{group_places, places_in}
use Rattle.row_index.proofs.Leaving.{none_ordered}
use Rattle.row_index.proofs.slots.Slots.places_at.Goals as goal

pub returns-in-None-clause-ordered : goal.returns-in-None-clause-ordered
returns-in-None-clause-ordered c =
    none_ordered (places_in c.args.column c.args.value.now c.args.self.now) (ap places_if_any c.in-None.ensures.value ∙ ap (group_places c.args.self.now) c.in_ok-group.ensures)
