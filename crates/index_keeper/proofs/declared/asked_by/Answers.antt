use Rattle.std.proofs.Common.{◌∙◌, ap, sym, Bool, eq-eqb}
use Rattle.std.specs.Prelude.{◌&&◌, ◌==◌}
use Rattle.std.specs.List.{list_any}
use Rattle.okws_plan.specs.declared.statement.Condition.{Condition}
use Rattle.row_search.specs.Places.{is_equality}
use Rattle.index_keeper.specs.Indexed.{conditions_of}
use Rattle.index_keeper.proofs.declared.asked_by.Goals as goal

pub returns-then-statement-table : goal.returns-then-statement-table
returns-then-statement-table c =
    let asks : Condition → Bool = λ (k : Condition). is_equality k.comparison && (k.column == c.args.column) in
    c.asks_any.ensures
    ∙ ap (list_any asks) c.conditions.ensures
    ∙ sym (ap (λ (b : Bool). b && list_any asks (conditions_of c.args.query.now.statement.action)) (eq-eqb c.args.query.now.statement.table c.args.table c.if-statement-table.true))
