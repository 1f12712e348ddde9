-- What a keeper over a database tells and pins.
use Rattle.std.specs.Prelude.{List, None}
use Rattle.std.specs.declared.option.Option.{Option}
use Rattle.okws_base.specs.declared.value.Value.{Value}
use Rattle.okws_outer.specs.declared.pinned.Listed.{Listed}
use Rattle.okws_plan.specs.declared.statement.Answer.{Answer}
use Rattle.okws_plan.specs.declared.statement.Answer.TheVariants.{Rows}

-- No rows are told.
abbrev pub untold : Option (List (List (List Value)))
untold = None

-- The answer that is pinned, with the number of its columns.
abbrev pub pinned_answer : Listed → Answer
pinned_answer p = Rows p.columns p.rows
