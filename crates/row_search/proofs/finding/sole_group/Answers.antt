use Rattle.std.proofs.Common.{◌∙◌, ap, sym, List, Some}
use Rattle.okws_base.specs.declared.value.Value.{Value}
use Rattle.okws_plan.specs.Meaning.{at_column}
use Rattle.row_index.specs.Index.{is_indexed, is_value}
use Rattle.row_index.specs.declared.slot.Group.{Group}
use Rattle.row_search.specs.Places.{is_equality}
use Rattle.row_search.proofs.Found.{both_right}
use Rattle.row_search.proofs.Keyed.{sole_met}
use Rattle.row_search.proofs.finding.sole_group.Goals as goal

pub returns-in_ok-group-in-Some-clause-own : goal.returns-in_ok-group-in-Some-clause-own
returns-in_ok-group-in-Some-clause-own c =
    ap (λ (g : Group). is_indexed c.args.columns.now g.column) c.in_ok-group-in-Some.ensures
    ∙ both_right (is_equality c.in-Some.condition.now.comparison) (is_indexed c.args.columns.now c.in-Some.condition.now.column) c.in-Some.ensures.leads

pub returns-in_ok-group-in-Some-clause-rows : goal.returns-in_ok-group-in-Some-clause-rows
returns-in_ok-group-in-Some-clause-rows c = λ (row : List Value).
    sole_met c.args.columns.now c.args.args.now c.args.conditions.now c.in-Some.condition.now c.in-Some.ensures.alone c.in-Some.ensures.leads row
    ∙ ap (λ (v : Value). is_value v (Some (at_column row c.in-Some.condition.now.column))) (sym c.value_of-value.ensures)
    ∙ ap (λ (g : Group). is_value g.value (Some (at_column row g.column))) (sym c.in_ok-group-in-Some.ensures)
