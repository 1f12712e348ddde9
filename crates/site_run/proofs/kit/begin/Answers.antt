use Rattle.std.proofs.Common.{◌+◌, ℕ, sym, ap, ◌∙◌, subst}
use Rattle.std.specs.Prelude.{vec_len}
use Rattle.site_run.specs.Rooms.{IsStock}
use Rattle.site_run.proofs.kit.begin.Goals as goal

pub new-requires-clause-papers : goal.new-requires-clause-papers
new-requires-clause-papers g c = (subst (IsStock g.N.Numbered.site g.N.Numbered.run_seed (vec_len c.args.doors)) (sym c.into_parts-columns.ensures.stock ∙ c.into_parts-site.ensures) c.requires.stock).papers

pub new-requires-clause-few : goal.new-requires-clause-few
new-requires-clause-few g c = (c.requires.servable.proxies, c.requires.servable.services)

pub new-requires-clause-office : goal.new-requires-clause-office
new-requires-clause-office g c = (subst (IsStock g.N.Numbered.site g.N.Numbered.run_seed (vec_len c.args.doors)) (sym c.into_parts-columns.ensures.stock ∙ c.into_parts-site.ensures) c.requires.stock).offered

pub returns-in_ok-run-in-Ok-clause-beside : goal.returns-in_ok-run-in-Ok-clause-beside
returns-in_ok-run-in-Ok-clause-beside g c =
    let stock = subst (IsStock g.N.Numbered.site g.N.Numbered.run_seed (vec_len c.args.doors)) (sym c.into_parts-columns.ensures.stock ∙ c.into_parts-site.ensures) c.requires.stock in
    (stock.shown_is, stock.first, ap (λ (n : ℕ). n + 1) stock.room_is ∙ sym c.requires.launcher)
