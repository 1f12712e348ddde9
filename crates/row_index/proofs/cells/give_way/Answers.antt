use Rattle.std.proofs.Common.{◌≡◌, ◌∙◌, ap, sym, subst, List}
use Rattle.std.specs.Prelude.{IsSome, slice_set, if◌then◌else◌}
use Rattle.std.specs.Ordering.{is_eq}
use Rattle.std.specs.BTreeMap.{get}
use Rattle.okws_base.specs.declared.value.Value.{Value}
use Rattle.okws_plan.specs.Meaning.{nothing}
use Rattle.row_index.specs.Groups.{group_cmp}
use Rattle.row_index.specs.GroupPlaces.{places_listed, is_among}
use Rattle.row_index.specs.Slots.{holds}
use Rattle.row_index.specs.declared.slot.Slot.{Slot}
use Rattle.row_index.proofs.Taken.{undisturbed}
use Rattle.row_index.proofs.cells.give_way.Goals as goal

pub give_way-gave-requires : goal.give_way-gave-requires
give_way-gave-requires c = subst (λ (s : Slot). IsSome (get group_cmp c.args.slots.now.groups s.group)) (sym c.slot_out-slot.ensures.slot) c.requires

pub returns-clause-values : goal.returns-clause-values
returns-clause-values c =
    c.slot_back.ensures
    ∙ ap (λ (values : List Value). slice_set values c.slot_out-slot.result.group.column c.slot_out-slot.result.group.value) c.slot_out-slot.ensures.rest
    ∙ ap (λ (s : Slot). slice_set (slice_set c.args.values.now c.args.column nothing) s.group.column s.group.value) c.slot_out-slot.ensures.slot
    ∙ undisturbed c.args.values.now c.args.column

pub returns-clause-back : goal.returns-clause-back
returns-clause-back c = λ h.
    subst (λ (s : Slot). (q : Slot) → holds c.give_way-gave.new.self q ≡ (if is_eq (group_cmp s.group q.group) then is_among q.place (places_listed c.args.places) else holds c.args.slots.now q)) c.slot_out-slot.ensures.slot (c.give_way-gave.ensures.back h)
