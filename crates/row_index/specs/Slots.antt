-- The slots of an index.
use Rattle.std.specs.Prelude.{ℕ, Bool, List}
use Rattle.std.specs.List.{list_any}
use Rattle.std.specs.Ordering.{nat_cmp, ordering_then, is_eq}
use Rattle.std.specs.declared.cmp.Ordering.{Ordering}
use Rattle.std.specs.BTreeMap.{get}
use Rattle.okws_base.specs.declared.value.Value.{Value}
use Rattle.row_index.specs.Groups.{group_cmp}
use Rattle.row_index.specs.GroupPlaces.{places_if_any, is_among}
use Rattle.row_index.specs.declared.slot.Group.{Group}
use Rattle.row_index.specs.declared.slot.Slot.{Slot}
use Rattle.row_index.specs.declared.slots.Slots.{Slots}

-- Slots are alike where their groups and their places are.
abbrev pub slot_cmp : Slot → Slot → Ordering
slot_cmp a b = ordering_then (group_cmp a.group b.group) (nat_cmp a.place b.place)

-- A list of slots has this one.
abbrev pub has_slot : List Slot → Slot → Bool
has_slot slots q = list_any (λ (s : Slot). is_eq (slot_cmp s q)) slots

-- The places in the slots of a group, ascending.
abbrev pub group_places : Slots → Group → List ℕ
group_places slots g = places_if_any (get group_cmp slots.groups g)

-- The places in the slots of a column that have this value, ascending.
abbrev pub places_in : ℕ → Value → Slots → List ℕ
places_in c v slots = group_places slots (record { column = c; value = v })

-- There is this slot.
abbrev pub holds : Slots → Slot → Bool
holds slots q = is_among q.place (group_places slots q.group)
