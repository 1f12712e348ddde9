use Rattle.std.proofs.Common.{◌∙◌, ap, sym, subst}
use Rattle.std.specs.Prelude.{IsSome, if◌then◌else◌, ◌==◌}
use Rattle.std.specs.Ordering.{is_eq}
use Rattle.std.specs.BTreeMap.{get}
use Rattle.row_index.specs.Groups.{group_cmp}
use Rattle.row_index.specs.GroupPlaces.{places_if_any}
use Rattle.row_index.specs.Slots.{holds, group_places}
use Rattle.row_index.specs.declared.slot.Group.{Group}
use Rattle.row_index.specs.declared.slot.Slot.{Slot}
use Rattle.row_index.proofs.Grouped.{first_more, beside_more, back_again, on_ok, on_err}
use Rattle.row_index.proofs.slots.Slots.put.Goals as goal

pub put_beside-requires : goal.put_beside-requires
put_beside-requires c = subst (λ (g : Group). IsSome (get group_cmp c.drive_out.new.self.groups g)) c.in_ok-copy.ensures c.in_ok-drive_out.ensures.there

pub returns-in-None-clause-ok : goal.returns-in-None-clause-ok
returns-in-None-clause-ok c =
    first_more c.args.self.now c.drive_out.new.self c.args.slot.now
    (λ (q : Slot). c.in_ok-drive_out.ensures.slots q ∙ ap (λ (g : Group). if is_eq (group_cmp g q.group) then c.args.slot.now.place == q.place else holds c.args.self.now q) c.in_ok-copy.ensures)
    (sym (ap places_if_any c.in-None.is) ∙ c.in_ok-drive_out.ensures.old ∙ ap (group_places c.args.self.now) c.in_ok-copy.ensures)

pub returns-in-Some-clause-ok : goal.returns-in-Some-clause-ok
returns-in-Some-clause-ok c =
    on_ok c.put_beside.result (λ h.
    beside_more c.args.self.now c.drive_out.new.self c.put_beside.new.self c.args.slot.now c.in-Some.places
    (λ (q : Slot). c.in_ok-drive_out.ensures.slots q ∙ ap (λ (g : Group). if is_eq (group_cmp g q.group) then c.args.slot.now.place == q.place else holds c.args.self.now q) c.in_ok-copy.ensures)
    (sym (ap places_if_any c.in-Some.is) ∙ c.in_ok-drive_out.ensures.old ∙ ap (group_places c.args.self.now) c.in_ok-copy.ensures) h) c.put_beside.ensures.ok

pub returns-in-Some-clause-err : goal.returns-in-Some-clause-err
returns-in-Some-clause-err c =
    on_err c.put_beside.result (λ h.
    back_again c.args.self.now c.drive_out.new.self c.put_beside.new.self c.args.slot.now c.in-Some.places
    (λ (q : Slot). c.in_ok-drive_out.ensures.slots q ∙ ap (λ (g : Group). if is_eq (group_cmp g q.group) then c.args.slot.now.place == q.place else holds c.args.self.now q) c.in_ok-copy.ensures)
    (sym (ap places_if_any c.in-Some.is) ∙ c.in_ok-drive_out.ensures.old ∙ ap (group_places c.args.self.now) c.in_ok-copy.ensures) h) c.put_beside.ensures.err
