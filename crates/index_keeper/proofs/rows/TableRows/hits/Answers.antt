use Rattle.std.proofs.Common.{◌≡◌, ◌∙◌, ℕ, List, IfOk, ap, subst}
use Rattle.std.specs.Prelude.{map}
use Rattle.okws_base.specs.declared.value.Value.{Value}
use Rattle.okws_plan.specs.Meaning.{meets_all}
use Rattle.row_index.specs.Few.{listed}
use Rattle.row_search.specs.Places.{places_where}
use Rattle.row_search.specs.declared.finding.Hit.{Hit}
use Rattle.index_keeper.proofs.Hits.{places_are}
use Rattle.index_keeper.proofs.rows.TableRows.hits.Goals as goal

pub returns-clause-places : goal.returns-clause-places
returns-clause-places g c =
    let found : map (λ (h : Hit). h.place) c.deref.result.now ≡ places_where (meets_all c.args.args.now c.args.conditions.now) c.args.self.now.entries =
    ap (map (λ (h : Hit). h.place)) (c.deref.ensures.value ∙ c.in_ok-hits.ensures)
    ∙ places_are (listed c.in_ok-found.found)
    ∙ ap (map (λ (e : ℕ × List Value). e.0)) c.in_ok-found.ensures.entries in
    subst (λ (ps : List ℕ). IfOk c.places_of.result (λ v. v.items ≡ ps)) found c.places_of.ensures
