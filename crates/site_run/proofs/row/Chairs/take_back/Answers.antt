use Rattle.std.proofs.Common.{[], ◌∷◌, ◌++◌, ◌∙◌, length, sym, ap}
use Rattle.site_run.specs.Rows.{ChairsAre}
use Rattle.site_run.proofs.Seating.{chairs_back}
use Rattle.site_run.proofs.Tying.{more_one}
use Rattle.site_run.proofs.row.Chairs.take_back.Goals as goal

pub returns-clause-seated : goal.returns-clause-seated
returns-clause-seated g c = λ t w h.
    let e = c.into_seats-seats.ensures in
    let s = c.into_seats-seats.result.0 in
    let a = c.into_seats-seats.result.1 in
    let b = c.into_seats-seats.result.2 in
    chairs_back t (length g.N.Numbered.site.services) c.args.self.now c.push_reserved.new.self.items c.push_reserved-2.new.self.items c.push_reserved-3.new.self.items s a b c.args.worker.life
    (c.push_reserved.ensures.items ∙ ap (λ (x : ChairsAre). x.seats ++ s ∷ []) c.self.view_is)
    (c.push_reserved-2.ensures.items ∙ ap (λ (x : ChairsAre). x.cells ++ a ∷ []) c.self.view_is)
    (c.push_reserved-3.ensures.items ∙ ap (λ (x : ChairsAre). x.turns ++ b ∷ []) c.self.view_is)
    e.number e.cells e.launcher e.rest w h

pub returns-clause-whose : goal.returns-clause-whose
returns-clause-whose g c =
    let e = c.into_seats-seats.ensures in
    let s = c.into_seats-seats.result.0 in
    let a = c.into_seats-seats.result.1 in
    let b = c.into_seats-seats.result.2 in
    more_one c.args.worker.life c.args.self.now _ s a b
    (c.push_reserved.ensures.items ∙ ap (λ (x : ChairsAre). x.seats ++ s ∷ []) c.self.view_is)
    (c.push_reserved-2.ensures.items ∙ ap (λ (x : ChairsAre). x.cells ++ a ∷ []) c.self.view_is)
    (c.push_reserved-3.ensures.items ∙ ap (λ (x : ChairsAre). x.turns ++ b ∷ []) c.self.view_is)
    (record { seen_is = sym e.columns.0; board_is = sym e.columns.1; okd_is = sym e.columns.2; pubd_is = sym e.columns.3; oklogd_is = sym e.columns.4; cells_is = sym e.cells; launcher_is = sym e.launcher })
