use Rattle.std.proofs.Common.{◌≡◌, ◌∙◌, ◌<◌, List, ℕ, ap, get_or, length, rules, sym, subst}
use Rattle.std.specs.List.Sorted.{IsStrictlySortedBy}
use Rattle.std.specs.Ordering.{nat_cmp}
use Rattle.row_index.specs.Places.{merged}
use Rattle.row_index.specs.Stands.{places_of}
use Rattle.row_index.specs.declared.placed.Stand.{Stand}
use Rattle.row_index.proofs.Stands.{places_rise, rows_rise, rises_set, stood, put_at}
use Rattle.row_index.proofs.placed.PlacedRows.put.Goals as goal

pub stand_of-requires : goal.stand_of-requires
stand_of-requires c = subst (λ (stands : List Stand). IsStrictlySortedBy nat_cmp (places_of stands)) (sym c.deref.ensures.value) (places_rise c.self.inside.stands.items c.self.inside.next c.self.invariant)

pub invariant_of-self : goal.invariant_of-self
invariant_of-self c =
    let stands : List Stand = c.self.inside.stands.items in
    let d : Stand = c.index_mut.result.now in
    let there : d ≡ get_or stands c.in-Some.i d = search rules in
    rises_set stands c.in-Some.i c.self.inside.next c.put_on.new.stand d (sym (c.put_on.ensures.place ∙ ap (λ (s : Stand). s.place) there)) c.self.invariant

pub returns-in-Some-clause-rising : goal.returns-in-Some-clause-rising
returns-in-Some-clause-rising c =
    let stands : List Stand = c.self.inside.stands.items in
    let d : Stand = c.index_mut.result.now in
    let there : d ≡ get_or stands c.in-Some.i d = search rules in
    rows_rise _ c.self.inside.next (rises_set stands c.in-Some.i c.self.inside.next c.put_on.new.stand d (sym (c.put_on.ensures.place ∙ ap (λ (s : Stand). s.place) there)) c.self.invariant)

pub returns-in-Some-clause-rows : goal.returns-in-Some-clause-rows
returns-in-Some-clause-rows c =
    let stands : List Stand = c.self.inside.stands.items in
    let d : Stand = c.index_mut.result.now in
    let there : d ≡ get_or stands c.in-Some.i d = search rules in
    let low : c.in-Some.i < length stands = subst (λ (all : List Stand). c.in-Some.i < length all) c.deref.ensures.value c.in-Some.ensures.here.0 in
    let at : (get_or stands c.in-Some.i d).place ≡ c.args.place = subst (λ (all : List Stand). (get_or all c.in-Some.i d).place ≡ c.args.place) c.deref.ensures.value (c.in-Some.ensures.here.1 d) in
    let same : c.put_on.new.stand.place ≡ c.args.place = c.put_on.ensures.place ∙ ap (λ (s : Stand). s.place) there ∙ at in
    let is : c.put_on.new.stand.row ≡ merged (get_or stands c.in-Some.i d).row c.args.row = c.put_on.ensures.row ∙ ap (λ (s : Stand). merged s.row c.args.row) there in
    rw (← c.self.view_is) (λ (q : ℕ). put_at stands c.in-Some.i c.args.place q c.put_on.new.stand c.args.row d (places_rise stands c.self.inside.next c.self.invariant) low at same is)

pub returns-in-None-clause-rising : goal.returns-in-None-clause-rising
returns-in-None-clause-rising c = rw (← c.self.view_is) (rows_rise c.self.inside.stands.items c.self.inside.next c.self.invariant)

pub returns-in-Some-clause-before : goal.returns-in-Some-clause-before
returns-in-Some-clause-before c =
    let stands : List Stand = c.self.inside.stands.items in
    let d : Stand = c.index_mut.result.now in
    let there : d ≡ get_or stands c.in-Some.i d = search rules in
    let low : c.in-Some.i < length stands = subst (λ (all : List Stand). c.in-Some.i < length all) c.deref.ensures.value c.in-Some.ensures.here.0 in
    let at : (get_or stands c.in-Some.i d).place ≡ c.args.place = subst (λ (all : List Stand). (get_or all c.in-Some.i d).place ≡ c.args.place) c.deref.ensures.value (c.in-Some.ensures.here.1 d) in
    rw (← c.self.view_is)
    (c.put_on.ensures.before
    ∙ ap (λ (s : Stand). s.row) there
    ∙ sym (stood stands c.in-Some.i c.args.place d (places_rise stands c.self.inside.next c.self.invariant) low at))
