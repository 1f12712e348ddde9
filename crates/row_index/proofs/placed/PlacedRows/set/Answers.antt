use Rattle.std.proofs.Common.{◌≡◌, ◌∙◌, ◌<◌, List, ℕ, ap, get_or, length, None, rules, sym, subst}
use Rattle.std.specs.Prelude.{option_map, slice_set}
use Rattle.std.specs.List.Sorted.{IsStrictlySortedBy}
use Rattle.std.specs.Ordering.{nat_cmp}
use Rattle.okws_base.specs.declared.value.Value.{Value}
use Rattle.row_index.specs.Places.{row_at}
use Rattle.row_index.specs.Stands.{places_of, standing}
use Rattle.row_index.specs.declared.placed.Stand.{Stand}
use Rattle.row_index.proofs.Stands.{places_rise, rows_rise, rises_set, set_at, set_nobody}
use Rattle.row_index.proofs.placed.PlacedRows.set.Goals as goal

pub stand_of-requires : goal.stand_of-requires
stand_of-requires c = subst (λ (stands : List Stand). IsStrictlySortedBy nat_cmp (places_of stands)) (sym c.deref.ensures.value) (places_rise c.self.inside.stands.items c.self.inside.next c.self.invariant)

pub invariant_of-self : goal.invariant_of-self
invariant_of-self c =
    let stands : List Stand = c.self.inside.stands.items in
    let d : Stand = c.index_mut.result.now in
    let there : d ≡ get_or stands c.in-Some.i d = search rules in
    rises_set stands c.in-Some.i c.self.inside.next c.set_on.new.stand d (sym (c.set_on.ensures.place ∙ ap (λ (s : Stand). s.place) there)) c.self.invariant

pub returns-in-Some-clause-rising : goal.returns-in-Some-clause-rising
returns-in-Some-clause-rising c =
    let stands : List Stand = c.self.inside.stands.items in
    let d : Stand = c.index_mut.result.now in
    let there : d ≡ get_or stands c.in-Some.i d = search rules in
    rows_rise _ c.self.inside.next (rises_set stands c.in-Some.i c.self.inside.next c.set_on.new.stand d (sym (c.set_on.ensures.place ∙ ap (λ (s : Stand). s.place) there)) c.self.invariant)

pub returns-in-Some-clause-rows : goal.returns-in-Some-clause-rows
returns-in-Some-clause-rows c =
    let stands : List Stand = c.self.inside.stands.items in
    let d : Stand = c.index_mut.result.now in
    let f : List Value → List Value = λ (row : List Value). slice_set row c.args.column c.args.value in
    let there : d ≡ get_or stands c.in-Some.i d = search rules in
    let low : c.in-Some.i < length stands = subst (λ (all : List Stand). c.in-Some.i < length all) c.deref.ensures.value c.in-Some.ensures.here.0 in
    let at : (get_or stands c.in-Some.i d).place ≡ c.args.place = subst (λ (all : List Stand). (get_or all c.in-Some.i d).place ≡ c.args.place) c.deref.ensures.value (c.in-Some.ensures.here.1 d) in
    let same : c.set_on.new.stand.place ≡ c.args.place = c.set_on.ensures.place ∙ ap (λ (s : Stand). s.place) there ∙ at in
    let is : c.set_on.new.stand.row ≡ option_map f (get_or stands c.in-Some.i d).row = c.set_on.ensures.row ∙ ap (λ (s : Stand). option_map f s.row) there in
    rw (← c.self.view_is) (λ (q : ℕ). set_at stands c.in-Some.i c.args.place q c.set_on.new.stand f d (places_rise stands c.self.inside.next c.self.invariant) low at same is)

pub returns-in-None-clause-rising : goal.returns-in-None-clause-rising
returns-in-None-clause-rising c = rw (← c.self.view_is) (rows_rise c.self.inside.stands.items c.self.inside.next c.self.invariant)

pub returns-in-None-clause-rows : goal.returns-in-None-clause-rows
returns-in-None-clause-rows c =
    let f : List Value → List Value = λ (row : List Value). slice_set row c.args.column c.args.value in
    let none : row_at (standing c.self.inside.stands.items) c.args.place ≡ None = ap (λ (stands : List Stand). row_at (standing stands) c.args.place) (sym c.deref.ensures.value) ∙ c.in-None.ensures.none in
    rw (← c.self.view_is) (λ (q : ℕ). set_nobody (row_at (standing c.self.inside.stands.items)) c.args.place q f none)
