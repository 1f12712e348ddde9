use Rattle.std.proofs.Common.{◌∙◌, ap, sym, subst, ℕ, Bool, List, length}
use Rattle.std.specs.Prelude.{IsSome, if◌then◌else◌, ◌==◌, ◌||◌, ◌&&◌}
use Rattle.std.specs.List.Sorted.{IsStrictlySortedBy}
use Rattle.std.specs.Ordering.{is_eq, nat_cmp}
use Rattle.std.specs.BTreeMap.{get}
use Rattle.okws_plan.specs.Meaning.{at_column}
use Rattle.row_index.specs.Groups.{group_cmp}
use Rattle.row_index.specs.GroupPlaces.{places_if_any}
use Rattle.row_index.specs.Slots.{holds, group_places}
use Rattle.row_index.specs.declared.slot.Group.{Group}
use Rattle.row_index.specs.declared.slot.Slot.{Slot}
use Rattle.row_index.proofs.Grouped.{first_more, gave}
use Rattle.row_index.proofs.Leaving.{none_ordered}
use Rattle.row_index.proofs.Coming.{named_is}
use Rattle.row_index.proofs.cells.put_key.Goals as goal

pub give_way-requires : goal.give_way-requires
give_way-requires c = subst (λ (g : Group). IsSome (get group_cmp c.drive_out.new.self.groups g)) c.in_ok-group.ensures c.in_ok-drive_out.ensures.there

pub returns-in-None-clause-came : goal.returns-in-None-clause-came
returns-in-None-clause-came c = ap (λ (places : List ℕ). length places == 0) (sym (ap places_if_any c.in-None.is) ∙ c.in_ok-drive_out.ensures.old ∙ ap (group_places c.args.slots.now) c.in_ok-group.ensures)

pub returns-in-None-clause-ordered : goal.returns-in-None-clause-ordered
returns-in-None-clause-ordered c = none_ordered (group_places c.args.slots.now (record { column = c.args.column; value = at_column c.args.values.now c.args.column })) (sym (ap places_if_any c.in-None.is) ∙ c.in_ok-drive_out.ensures.old ∙ ap (group_places c.args.slots.now) c.in_ok-group.ensures)

pub returns-in-None-clause-ok : goal.returns-in-None-clause-ok
returns-in-None-clause-ok c = λ (q : Slot).
    first_more c.args.slots.now c.drive_out.new.self (record { group = record { column = c.args.column; value = at_column c.args.values.now c.args.column }; place = c.args.place })
    (λ (q : Slot). c.in_ok-drive_out.ensures.slots q ∙ ap (λ (g : Group). if is_eq (group_cmp g q.group) then c.args.place == q.place else holds c.args.slots.now q) c.in_ok-group.ensures)
    (sym (ap places_if_any c.in-None.is) ∙ c.in_ok-drive_out.ensures.old ∙ ap (group_places c.args.slots.now) c.in_ok-group.ensures) q
    ∙ ap (λ (b : Bool). b || holds c.args.slots.now q) (named_is c.args.column c.args.place c.args.values.now q)

pub returns-in-Some-clause-came : goal.returns-in-Some-clause-came
returns-in-Some-clause-came c = c.give_way.ensures.none ∙ ap (λ (places : List ℕ). length places == 0) (sym (ap places_if_any c.in-Some.is) ∙ c.in_ok-drive_out.ensures.old ∙ ap (group_places c.args.slots.now) c.in_ok-group.ensures)

pub returns-in-Some-clause-ordered : goal.returns-in-Some-clause-ordered
returns-in-Some-clause-ordered c = subst (IsStrictlySortedBy nat_cmp) (sym (ap places_if_any c.in-Some.is) ∙ c.in_ok-drive_out.ensures.old ∙ ap (group_places c.args.slots.now) c.in_ok-group.ensures) c.give_way.ensures.ordered

pub returns-in-Some-clause-ok : goal.returns-in-Some-clause-ok
returns-in-Some-clause-ok c = λ (q : Slot).
    gave c.give_way.result c.args.slots.now c.drive_out.new.self c.give_way.new.slots (record { group = record { column = c.args.column; value = at_column c.args.values.now c.args.column }; place = c.args.place }) c.in-Some.places
    (λ (q : Slot). c.in_ok-drive_out.ensures.slots q ∙ ap (λ (g : Group). if is_eq (group_cmp g q.group) then c.args.place == q.place else holds c.args.slots.now q) c.in_ok-group.ensures)
    (sym (ap places_if_any c.in-Some.is) ∙ c.in_ok-drive_out.ensures.old ∙ ap (group_places c.args.slots.now) c.in_ok-group.ensures) c.give_way.ensures.none c.give_way.ensures.back c.give_way.ensures.stays q
    ∙ ap (λ (b : Bool). (c.give_way.result && b) || holds c.args.slots.now q) (named_is c.args.column c.args.place c.args.values.now q)
