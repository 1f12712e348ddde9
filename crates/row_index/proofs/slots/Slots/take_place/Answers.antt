use Rattle.std.proofs.Common.{◌≡◌, ◌∙◌, ap, sym, subst, refl, Some, ℕ, List}
use Rattle.std.specs.Prelude.{IsSome, ◌==◌, ◌&&◌, not}
use Rattle.std.specs.BTreeMap.{BTreeMap, get}
use Rattle.std.specs.declared.option.Option.{Option}
use Rattle.row_index.specs.Groups.{group_cmp}
use Rattle.row_index.specs.GroupPlaces.{places_if_any, places_listed, is_among}
use Rattle.row_index.specs.Slots.{group_places}
use Rattle.row_index.specs.declared.places.Places.{Places}
use Rattle.row_index.specs.declared.slot.Group.{Group}
use Rattle.row_index.specs.declared.slot.Slot.{Slot}
use Rattle.row_index.proofs.Grouped.{none_less, place_less, last_less}
use Rattle.row_index.proofs.slots.Slots.take_place.Goals as goal

pub returns-in-None-clause-left : goal.returns-in-None-clause-left
returns-in-None-clause-left c = λ h. λ (q : Slot).
    ap (λ (groups : BTreeMap Group Places). is_among q.place (places_if_any (get group_cmp groups q.group))) c.get_mut.follows.holds-at-none
    ∙ none_less c.args.self.now c.args.slot.now q (ap places_if_any (sym c.in-None.ensures.value))

pub returns-in-Some-clause-left : goal.returns-in-Some-clause-left
returns-in-Some-clause-left c =
    let there : IsSome (get group_cmp c.args.self.now.groups c.args.slot.now.group) = subst (λ (o : Option Places). IsSome o) c.in-Some.ensures.value refl in
    let here : places_listed c.in-Some.places.now ≡ group_places c.args.self.now c.args.slot.now.group = ap places_if_any c.in-Some.ensures.value in
    λ h.
    place_less c.args.self.now (record { groups = c.get_mut.follows.lender c.take.new.self }) c.args.slot.now (Some c.take.new.self) ((c.get_mut.follows.holds c.take.new.self).3 there).0
    (λ (p : ℕ). c.take.ensures.left h p ∙ ap (λ (places : List ℕ). not (c.args.slot.now.place == p) && is_among p places) here)

pub returns-in-Some-clause-last : goal.returns-in-Some-clause-last
returns-in-Some-clause-last c =
    let there : IsSome (get group_cmp c.args.self.now.groups c.args.slot.now.group) = subst (λ (o : Option Places). IsSome o) c.in-Some.ensures.value refl in
    let here : places_listed c.in-Some.places.now ≡ group_places c.args.self.now c.args.slot.now.group = ap places_if_any c.in-Some.ensures.value in
    λ h.
    last_less c.args.self.now (record { groups = c.get_mut.follows.lender c.take.new.self }) c.args.slot.now (Some c.take.new.self) ((c.get_mut.follows.holds c.take.new.self).3 there).0
    (λ (p : ℕ). ap (λ (places : List ℕ). not (c.args.slot.now.place == p) && is_among p places) (sym here) ∙ c.take.ensures.last h p)
