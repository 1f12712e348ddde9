use Rattle.std.proofs.Common.{arith, ◌≡◌, ◌<◌, ◌∙◌, length, refl, sym, ap, subst}
use Rattle.site_run.specs.Rows.{ChairsAre, WorksAs}
use Rattle.site_run.proofs.Seating.{chairs_last, works_here, chairs_many}
use Rattle.site_run.proofs.Tying.{chair_of, more_one}
use Rattle.site_run.proofs.row.Chairs.last.Goals as goal

pub unreachable-requires-in_default-pop : goal.unreachable-requires-in_default-pop
unreachable-requires-in_default-pop g c =
    let x = c.args.self.now in
    let m = chairs_many c.args.ground.now.turn.now (length g.N.Numbered.site.services) 0 x.seats x.cells x.turns c.requires.seated in
    let n : length c.self.inside.cells.items ≡ length x.seats = ap (λ (y : ChairsAre). length y.cells) c.self.view_is ∙ m.0 in
    let some : 0 < length x.seats = c.requires.some in
    grind arith

pub unreachable-requires-in_default-pop-2 : goal.unreachable-requires-in_default-pop-2
unreachable-requires-in_default-pop-2 g c =
    let x = c.args.self.now in
    let m = chairs_many c.args.ground.now.turn.now (length g.N.Numbered.site.services) 0 x.seats x.cells x.turns c.requires.seated in
    let n : length c.self.inside.turns.items ≡ length x.seats = ap (λ (y : ChairsAre). length y.turns) c.self.view_is ∙ m.1 in
    let some : 0 < length x.seats = c.requires.some in
    grind arith

pub new-requires-clause-cells : goal.new-requires-clause-cells
new-requires-clause-cells g c =
    let p = chairs_last c.args.ground.now.turn.now (length g.N.Numbered.site.services) c.args.self.now c.pop.new.self.items c.in-Some.seats c.pop-2.new.self.items c.in-Some-pop.at_cells c.pop-3.new.self.items c.in-Some-pop-2.at_launcher
    (ap (λ (y : ChairsAre). y.seats) (sym c.self.view_is) ∙ c.in-Some.ensures.items)
    (ap (λ (y : ChairsAre). y.cells) (sym c.self.view_is) ∙ c.in-Some-pop.ensures.items)
    (ap (λ (y : ChairsAre). y.turns) (sym c.self.view_is) ∙ c.in-Some-pop-2.ensures.items) c.requires.seated in
    p.1.cells_number ∙ sym p.1.sat_number

pub new-requires-clause-launcher : goal.new-requires-clause-launcher
new-requires-clause-launcher g c =
    let p = chairs_last c.args.ground.now.turn.now (length g.N.Numbered.site.services) c.args.self.now c.pop.new.self.items c.in-Some.seats c.pop-2.new.self.items c.in-Some-pop.at_cells c.pop-3.new.self.items c.in-Some-pop-2.at_launcher
    (ap (λ (y : ChairsAre). y.seats) (sym c.self.view_is) ∙ c.in-Some.ensures.items)
    (ap (λ (y : ChairsAre). y.cells) (sym c.self.view_is) ∙ c.in-Some-pop.ensures.items)
    (ap (λ (y : ChairsAre). y.turns) (sym c.self.view_is) ∙ c.in-Some-pop-2.ensures.items) c.requires.seated in
    p.1.seat_number ∙ sym p.1.sat_number

pub new-requires-clause-services : goal.new-requires-clause-services
new-requires-clause-services g c =
    let p = chairs_last c.args.ground.now.turn.now (length g.N.Numbered.site.services) c.args.self.now c.pop.new.self.items c.in-Some.seats c.pop-2.new.self.items c.in-Some-pop.at_cells c.pop-3.new.self.items c.in-Some-pop-2.at_launcher
    (ap (λ (y : ChairsAre). y.seats) (sym c.self.view_is) ∙ c.in-Some.ensures.items)
    (ap (λ (y : ChairsAre). y.cells) (sym c.self.view_is) ∙ c.in-Some-pop.ensures.items)
    (ap (λ (y : ChairsAre). y.turns) (sym c.self.view_is) ∙ c.in-Some-pop-2.ensures.items) c.requires.seated in
    p.1.cells_are

pub new-requires-clause-rest : goal.new-requires-clause-rest
new-requires-clause-rest g c =
    let p = chairs_last c.args.ground.now.turn.now (length g.N.Numbered.site.services) c.args.self.now c.pop.new.self.items c.in-Some.seats c.pop-2.new.self.items c.in-Some-pop.at_cells c.pop-3.new.self.items c.in-Some-pop-2.at_launcher
    (ap (λ (y : ChairsAre). y.seats) (sym c.self.view_is) ∙ c.in-Some.ensures.items)
    (ap (λ (y : ChairsAre). y.cells) (sym c.self.view_is) ∙ c.in-Some-pop.ensures.items)
    (ap (λ (y : ChairsAre). y.turns) (sym c.self.view_is) ∙ c.in-Some-pop-2.ensures.items) c.requires.seated in
    p.1.rests

pub returns-clause-seated : goal.returns-clause-seated
returns-clause-seated g c =
    (chairs_last c.args.ground.now.turn.now (length g.N.Numbered.site.services) c.args.self.now c.pop.new.self.items c.in-Some.seats c.pop-2.new.self.items c.in-Some-pop.at_cells c.pop-3.new.self.items c.in-Some-pop-2.at_launcher
    (ap (λ (y : ChairsAre). y.seats) (sym c.self.view_is) ∙ c.in-Some.ensures.items)
    (ap (λ (y : ChairsAre). y.cells) (sym c.self.view_is) ∙ c.in-Some-pop.ensures.items)
    (ap (λ (y : ChairsAre). y.turns) (sym c.self.view_is) ∙ c.in-Some-pop-2.ensures.items) c.requires.seated).0

pub returns-clause-worker : goal.returns-clause-worker
returns-clause-worker g c =
    let t = c.args.ground.now.turn.now in
    let m = length g.N.Numbered.site.services in
    let p = chairs_last t m c.args.self.now c.pop.new.self.items c.in-Some.seats c.pop-2.new.self.items c.in-Some-pop.at_cells c.pop-3.new.self.items c.in-Some-pop-2.at_launcher
    (ap (λ (y : ChairsAre). y.seats) (sym c.self.view_is) ∙ c.in-Some.ensures.items)
    (ap (λ (y : ChairsAre). y.cells) (sym c.self.view_is) ∙ c.in-Some-pop.ensures.items)
    (ap (λ (y : ChairsAre). y.turns) (sym c.self.view_is) ∙ c.in-Some-pop-2.ensures.items) c.requires.seated in
    subst (WorksAs t (length c.pop.new.self.items)) (sym c.new.ensures.life) (works_here t m (length c.pop.new.self.items) c.in-Some.seats c.in-Some-pop.at_cells c.in-Some-pop-2.at_launcher _ refl refl p.1)

pub returns-clause-whose : goal.returns-clause-whose
returns-clause-whose g c =
    more_one c.new.result.life _ c.args.self.now c.in-Some.seats c.in-Some-pop.at_cells c.in-Some-pop-2.at_launcher
    (ap (λ (y : ChairsAre). y.seats) (sym c.self.view_is) ∙ c.in-Some.ensures.items)
    (ap (λ (y : ChairsAre). y.cells) (sym c.self.view_is) ∙ c.in-Some-pop.ensures.items)
    (ap (λ (y : ChairsAre). y.turns) (sym c.self.view_is) ∙ c.in-Some-pop-2.ensures.items) (chair_of c.new.result.life c.in-Some.seats c.in-Some-pop.at_cells c.in-Some-pop-2.at_launcher c.in-Some.seats.okd c.new.ensures.life)
