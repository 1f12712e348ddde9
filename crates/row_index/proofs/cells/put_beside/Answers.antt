use Rattle.std.proofs.Common.{◌≡◌, ◌∙◌, ap, sym, subst, List, OnOk, OnErr}
use Rattle.std.specs.Prelude.{IsSome, slice_set, if◌then◌else◌, ◌==◌, ◌||◌}
use Rattle.std.specs.Ordering.{is_eq}
use Rattle.std.specs.BTreeMap.{get}
use Rattle.okws_base.specs.declared.value.Value.{Value}
use Rattle.okws_plan.specs.Meaning.{nothing}
use Rattle.row_index.specs.Groups.{group_cmp}
use Rattle.row_index.specs.GroupPlaces.{places_listed, is_among}
use Rattle.row_index.specs.Slots.{holds}
use Rattle.row_index.specs.declared.slot.Slot.{Slot}
use Rattle.row_index.proofs.Taken.{undisturbed}
use Rattle.row_index.proofs.cells.put_beside.Goals as goal

pub put_beside-put-requires : goal.put_beside-put-requires
put_beside-put-requires c = subst (λ (s : Slot). IsSome (get group_cmp c.args.slots.now.groups s.group)) (sym c.slot_out-slot.ensures.slot) c.requires

pub returns-clause-values : goal.returns-clause-values
returns-clause-values c =
    c.slot_back.ensures
    ∙ ap (λ (values : List Value). slice_set values c.slot_out-slot.result.group.column c.slot_out-slot.result.group.value) c.slot_out-slot.ensures.rest
    ∙ ap (λ (s : Slot). slice_set (slice_set c.args.values.now c.args.column nothing) s.group.column s.group.value) c.slot_out-slot.ensures.slot
    ∙ undisturbed c.args.values.now c.args.column

pub returns-clause-ok : goal.returns-clause-ok
returns-clause-ok c =
    subst (λ (s : Slot). OnOk c.put_beside-put.result ((q : Slot) → holds c.put_beside-put.new.self q ≡ (if is_eq (group_cmp s.group q.group) then (s.place == q.place) || is_among q.place (places_listed c.args.places) else holds c.args.slots.now q))) c.slot_out-slot.ensures.slot c.put_beside-put.ensures.ok

pub returns-clause-err : goal.returns-clause-err
returns-clause-err c =
    subst (λ (s : Slot). OnErr c.put_beside-put.result ((q : Slot) → holds c.put_beside-put.new.self q ≡ (if is_eq (group_cmp s.group q.group) then is_among q.place (places_listed c.args.places) else holds c.args.slots.now q))) c.slot_out-slot.ensures.slot c.put_beside-put.ensures.err
