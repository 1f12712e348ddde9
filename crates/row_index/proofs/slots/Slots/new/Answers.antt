use Rattle.std.proofs.Common.{ap, List}
use Rattle.std.specs.BTreeMap.{is_at}
use Rattle.std.specs.Map.{lookup}
use Rattle.row_index.specs.Groups.{group_cmp}
use Rattle.row_index.specs.GroupPlaces.{places_if_any, is_among}
use Rattle.row_index.specs.declared.places.Places.{Places}
use Rattle.row_index.specs.declared.slot.Group.{Group}
use Rattle.row_index.specs.declared.slot.Slot.{Slot}
use Rattle.row_index.proofs.slots.Slots.new.Goals as goal

pub returns : goal.returns
returns c = λ (q : Slot). ap (λ (es : List (Group × Places)). is_among q.place (places_if_any (lookup (is_at (group_cmp q.group)) es))) c.new.ensures.empty
