use Rattle.std.proofs.Common.{◌≡◌, ◌∙◌, ap, subst, List, IfOk, length}
use Rattle.okws_base.specs.declared.value.Value.{Value}
use Rattle.okws_plan.specs.Meaning.{meets_all, hits, cut_all, limited, ordered}
use Rattle.okws_plan.specs.declared.statement.Answer.{Answer}
use Rattle.okws_plan.specs.declared.statement.Answer.TheVariants.{Rows}
use Rattle.okws_plan.specs.declared.statement.Condition.{Condition}
use Rattle.row_index.specs.Few.{listed}
use Rattle.row_search.specs.Places.{rows_of}
use Rattle.row_search.specs.Hits.{lent}
use Rattle.row_search.proofs.Found.{rows_where}
use Rattle.index_keeper.proofs.Hits.{lent_are}
use Rattle.index_keeper.proofs.rows.TableRows.select.Goals as goal

pub returns : goal.returns
returns g c =
    let found : lent (listed c.in_ok-found.found) ≡ hits c.args.args.now c.args.selection.now.conditions (rows_of c.args.self.now.entries) =
    lent_are (listed c.in_ok-found.found)
    ∙ ap rows_of c.in_ok-found.ensures.entries
    ∙ rows_where (meets_all c.args.args.now c.as_slice.result.now) c.args.self.now.entries
    ∙ ap (λ (conditions : List Condition). hits c.args.args.now conditions (rows_of c.args.self.now.entries)) c.as_slice.ensures in
    subst
    (λ (rows : List (List Value)). IfOk c.answer.result (λ (answer : Answer). answer ≡ Rows (length c.args.selection.now.columns) (cut_all c.args.selection.now.columns (limited c.args.selection.now.limit (ordered c.args.selection.now.order rows)))))
    found
    c.answer.ensures
