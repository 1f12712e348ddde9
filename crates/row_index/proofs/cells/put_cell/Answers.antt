use Rattle.std.proofs.Common.{◌∙◌, ap, sym, subst, Bool}
use Rattle.std.specs.Prelude.{IsSome, if◌then◌else◌, ◌==◌, ◌||◌}
use Rattle.std.specs.Ordering.{is_eq}
use Rattle.std.specs.BTreeMap.{get}
use Rattle.okws_plan.specs.Meaning.{at_column}
use Rattle.row_index.specs.Groups.{group_cmp}
use Rattle.row_index.specs.GroupPlaces.{places_if_any}
use Rattle.row_index.specs.Slots.{holds, group_places}
use Rattle.row_index.specs.declared.slot.Group.{Group}
use Rattle.row_index.specs.declared.slot.Slot.{Slot}
use Rattle.row_index.proofs.Grouped.{first_more, beside_more, back_again, on_ok, on_err}
use Rattle.row_index.proofs.Moved.{slot_is}
use Rattle.row_index.proofs.cells.put_cell.Goals as goal

pub put_beside-requires : goal.put_beside-requires
put_beside-requires c = subst (λ (g : Group). IsSome (get group_cmp c.drive_out.new.self.groups g)) c.in_ok-group.ensures c.in_ok-drive_out.ensures.there

pub returns-in-None-clause-ok : goal.returns-in-None-clause-ok
returns-in-None-clause-ok c = λ (q : Slot).
    first_more c.args.slots.now c.drive_out.new.self (record { group = record { column = c.args.column; value = at_column c.args.values.now c.args.column }; place = c.args.place })
    (λ (q : Slot). c.in_ok-drive_out.ensures.slots q ∙ ap (λ (g : Group). if is_eq (group_cmp g q.group) then c.args.place == q.place else holds c.args.slots.now q) c.in_ok-group.ensures)
    (sym (ap places_if_any c.in-None.is) ∙ c.in_ok-drive_out.ensures.old ∙ ap (group_places c.args.slots.now) c.in_ok-group.ensures) q
    ∙ ap (λ (b : Bool). b || holds c.args.slots.now q) (slot_is c.args.column c.args.place (at_column c.args.values.now c.args.column) q)

pub returns-in-Some-clause-ok : goal.returns-in-Some-clause-ok
returns-in-Some-clause-ok c =
    on_ok c.put_beside.result (λ h. λ (q : Slot).
    beside_more c.args.slots.now c.drive_out.new.self c.put_beside.new.slots (record { group = record { column = c.args.column; value = at_column c.args.values.now c.args.column }; place = c.args.place }) c.in-Some.places
    (λ (q : Slot). c.in_ok-drive_out.ensures.slots q ∙ ap (λ (g : Group). if is_eq (group_cmp g q.group) then c.args.place == q.place else holds c.args.slots.now q) c.in_ok-group.ensures)
    (sym (ap places_if_any c.in-Some.is) ∙ c.in_ok-drive_out.ensures.old ∙ ap (group_places c.args.slots.now) c.in_ok-group.ensures) h q
    ∙ ap (λ (b : Bool). b || holds c.args.slots.now q) (slot_is c.args.column c.args.place (at_column c.args.values.now c.args.column) q)) c.put_beside.ensures.ok

pub returns-in-Some-clause-err : goal.returns-in-Some-clause-err
returns-in-Some-clause-err c =
    on_err c.put_beside.result (λ h.
    back_again c.args.slots.now c.drive_out.new.self c.put_beside.new.slots (record { group = record { column = c.args.column; value = at_column c.args.values.now c.args.column }; place = c.args.place }) c.in-Some.places
    (λ (q : Slot). c.in_ok-drive_out.ensures.slots q ∙ ap (λ (g : Group). if is_eq (group_cmp g q.group) then c.args.place == q.place else holds c.args.slots.now q) c.in_ok-group.ensures)
    (sym (ap places_if_any c.in-Some.is) ∙ c.in_ok-drive_out.ensures.old ∙ ap (group_places c.args.slots.now) c.in_ok-group.ensures) h) c.put_beside.ensures.err
