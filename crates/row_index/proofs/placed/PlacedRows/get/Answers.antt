use Rattle.std.proofs.Common.{◌≡◌, ◌∙◌, List, ap, rules, sym, subst, get_or}
use Rattle.std.specs.Option.{option_copied}
use Rattle.std.specs.List.Sorted.{IsStrictlySortedBy}
use Rattle.std.specs.Ordering.{nat_cmp}
use Rattle.row_index.specs.Places.{row_at}
use Rattle.row_index.specs.Stands.{standing, places_of}
use Rattle.row_index.specs.declared.placed.Stand.{Stand}
use Rattle.row_index.proofs.Stands.{places_rise, stood}
use Rattle.row_index.proofs.placed.PlacedRows.get.Goals as goal

pub stand_of-requires : goal.stand_of-requires
stand_of-requires c = subst (λ (stands : List Stand). IsStrictlySortedBy nat_cmp (places_of stands)) (sym c.deref.ensures.value) (places_rise c.self.inside.stands.items c.self.inside.next c.self.invariant)

pub returns-in-Some : goal.returns-in-Some
returns-in-Some c =
    let stands : List Stand = c.deref.result.now in
    let d : Stand = c.index.result.now in
    let rise : IsStrictlySortedBy nat_cmp (places_of stands) = subst (λ (all : List Stand). IsStrictlySortedBy nat_cmp (places_of all)) (sym c.deref.ensures.value) (places_rise c.self.inside.stands.items c.self.inside.next c.self.invariant) in
    let here : option_copied c.as_ref.result ≡ d.row = c.as_ref.ensures.value in
    let at : d ≡ get_or stands c.in-Some.i d = search rules in
    rw (← c.self.view_is)
    (here
    ∙ ap (λ (s : Stand). s.row) at
    ∙ sym (stood stands c.in-Some.i c.args.place d rise c.in-Some.ensures.here.0 (c.in-Some.ensures.here.1 d))
    ∙ ap (λ (all : List Stand). row_at (standing all) c.args.place) c.deref.ensures.value)
