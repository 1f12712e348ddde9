use Rattle.std.proofs.Common.{◌≡◌, ◌∙◌, ◌∷◌, ◌++◌, [], ap, subst, List, OnOk, map}
use Rattle.okws_base.specs.declared.value.Value.{Value}
use Rattle.okws_plan.specs.Meaning.{meets_all, hits, laid, joined_to}
use Rattle.okws_plan.specs.declared.statement.Condition.{Condition}
use Rattle.row_index.specs.Few.{listed}
use Rattle.row_search.specs.Places.{rows_of}
use Rattle.row_search.specs.Hits.{lent}
use Rattle.row_search.specs.declared.finding.Hit.{Hit}
use Rattle.row_search.proofs.Found.{rows_where}
use Rattle.index_keeper.proofs.Hits.{lent_are}
use Rattle.index_keeper.proofs.Joinings.{pairs_found, laid_lent}
use Rattle.index_keeper.proofs.joining.push_joined.Goals as goal

pub returns : goal.returns
returns g c =
    let before : List Value → List Value = laid c.args.width c.args.row.now in
    let rows : List (List Value) = rows_of c.args.second.now.entries in
    let found : lent c.in_ok-others.others.items ≡ hits c.args.args.now (c.in_ok-condition.condition ∷ []) rows =
    ap lent c.in_ok-others.ensures
    ∙ lent_are (listed c.in_ok-found.found)
    ∙ ap rows_of c.in_ok-found.ensures.entries
    ∙ rows_where (meets_all c.args.args.now (c.in_ok-condition.condition ∷ [])) c.args.second.now.entries in
    let pairs : map (λ (h : Hit). before h.row.now) c.in_ok-others.others.items ≡ joined_to c.args.width c.args.join.now rows c.args.row.now =
    laid_lent c.args.width c.args.row.now c.in_ok-others.others.items
    ∙ ap (map before) (found ∙ ap (λ (k : Condition). hits c.args.args.now (k ∷ []) rows) c.in_ok-condition.ensures)
    ∙ pairs_found c.args.args.now c.args.width c.args.join.now c.args.row.now rows c.requires in
    subst
    (λ (all : List (List Value)). OnOk c.push_pairs.result (c.push_pairs.new.out.items ≡ c.args.out.now.items ++ hits c.args.args.now c.args.conditions.now all))
    (ap (map (λ (h : Hit). before h.row.now)) c.deref.ensures.value ∙ pairs)
    c.push_pairs.ensures
