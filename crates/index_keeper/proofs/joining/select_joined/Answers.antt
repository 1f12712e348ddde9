use Rattle.std.proofs.Common.{◌≡◌, ◌∙◌, ap, subst, List, IfOk, flat_map, rules}
use Rattle.okws_base.specs.declared.value.Value.{Value}
use Rattle.okws_plan.specs.Meaning.{meets_all, hits, joined_to, ordered, limited, cut_all}
use Rattle.okws_plan.specs.declared.statement.Condition.{Condition}
use Rattle.row_index.specs.Few.{listed}
use Rattle.row_search.specs.Places.{rows_of}
use Rattle.row_search.specs.Hits.{lent}
use Rattle.index_keeper.specs.Joining.{own_conditions}
use Rattle.row_search.specs.declared.finding.Hit.{Hit}
use Rattle.row_search.proofs.Found.{rows_where}
use Rattle.index_keeper.proofs.Hits.{lent_are}
use Rattle.index_keeper.proofs.Joinings.{each_lent, row_by_row}
use Rattle.index_keeper.proofs.joining.select_joined.Goals as goal

pub returns : goal.returns
returns g c =
    let args : List Value = c.args.args.now in
    let s = c.args.selection.now in
    let rows : List (List Value) = rows_of c.args.first.now.entries in
    let others : List (List Value) = rows_of c.args.second.now.entries in
    let each : List Value → List (List Value) = λ (a : List Value). hits args s.conditions (joined_to c.args.width c.args.join.now others a) in
    let own : c.deref.result.now ≡ own_conditions c.args.width s.conditions = search rules in
    let found : lent c.in_ok-rows.rows.items ≡ hits args (own_conditions c.args.width s.conditions) rows =
    ap lent c.in_ok-rows.ensures
    ∙ lent_are (listed c.in_ok-found.found)
    ∙ ap rows_of c.in_ok-found.ensures.entries
    ∙ rows_where (meets_all args c.deref.result.now) c.args.first.now.entries
    ∙ ap (λ (conditions : List Condition). hits args conditions rows) own in
    let joined : c.in_ok-all.all.items ≡ flat_map (λ (h : Hit). each h.row.now) c.in_ok-rows.rows.items = search rules in
    subst
    (λ (all : List (List Value)). IfOk c.listed.result (λ v. v.items ≡ cut_all s.columns (limited s.limit (ordered s.order all))))
    (joined ∙ each_lent each c.in_ok-rows.rows.items ∙ ap (flat_map each) found ∙ row_by_row args c.args.width c.args.join.now s rows others)
    c.listed.ensures
