use Rattle.std.proofs.Common.{◌∙◌, ap, List}
use Rattle.okws_base.specs.declared.value.Value.{Value}
use Rattle.okws_plan.specs.Meaning.{is_taken, inserted}
use Rattle.okws_plan.specs.declared.statement.Answer.{Answer}
use Rattle.row_search.specs.Places.{rows_of}
use Rattle.row_search.proofs.Keyed.{told_is}
use Rattle.index_keeper.proofs.rows.TableRows.insert.Goals as goal

pub returns-clause-ok : goal.returns-clause-ok
returns-clause-ok c =
    let rows : List (List Value) = rows_of c.args.self.now.entries in
    let now : List (List Value) = rows_of c.push_new.new.self.entries in
    ap (λ (a : Answer). (a, now)) c.told.ensures
    ∙ told_is c.in_ok-came.came (is_taken c.args.columns.now rows c.in_ok-new.new) rows now c.in_ok-new.new c.in_ok-came.ensures.came c.in_ok-came.ensures.rows
    ∙ ap (λ (new : List Value). inserted (is_taken c.args.columns.now rows new) rows new) c.in_ok-new.ensures
