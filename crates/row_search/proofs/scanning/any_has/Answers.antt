use Rattle.std.proofs.Common.{◌∙◌, List}
use Rattle.okws_base.specs.Value.{value_eq}
use Rattle.okws_base.specs.declared.value.Value.{Value}
use Rattle.okws_plan.specs.Meaning.{at_column}
use Rattle.row_search.proofs.Scanned.{any_standing}
use Rattle.row_search.proofs.scanning.any_has.Goals as goal

pub returns : goal.returns
returns c = c.any_stands.ensures ∙ any_standing (λ (row : List Value). value_eq (at_column row c.args.column) c.args.value.now) c.args.stands.now
