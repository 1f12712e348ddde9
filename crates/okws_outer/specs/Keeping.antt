-- What a keeper of rows answers, and what it does to the rows that it tells.
use Rattle.std.specs.Prelude.{◌≡◌, ⊤, ℕ, Bool, true, false, List, [], length, slice_index_or, Result, Ok, Err, Some, None, IsSome}
use Rattle.std.specs.declared.option.Option.{Option}
use Rattle.okws_base.specs.declared.value.Value.{Value}
use Rattle.okws_plan.specs.declared.configuration.Column.{Column}
use Rattle.okws_plan.specs.declared.configuration.Table.{Table}
use Rattle.okws_plan.specs.declared.statement.Action.{Action}
use Rattle.okws_plan.specs.declared.statement.Action.TheVariants.{Select, Insert, Update, Delete}
use Rattle.okws_plan.specs.declared.statement.Statement.{Statement}
use Rattle.okws_plan.specs.declared.statement.Answer.{Answer}
use Rattle.okws_plan.specs.declared.statement.Answer.TheVariants.{Rows, Changed, Duplicate}
use Rattle.okws_plan.specs.Meaning.{mean, at_column, columns_of, key_place}
use Rattle.okws_outer.specs.declared.keeper.RunError.{RunError}

-- What an action at a table of these columns may answer, whatever rows there are: a SELECT rows of as many columns as it lists; an INSERT Changed 1, or Duplicate where a column is the KEY; an UPDATE or a DELETE how many rows.
abbrev pub MayAnswer : List Column → Action → Answer → Type 0
MayAnswer columns (Select selection) (Rows count rows) = count ≡ length selection.columns
MayAnswer columns (Select selection) (Changed n) = ⊥
MayAnswer columns (Select selection) Duplicate = ⊥
MayAnswer columns (Insert values) (Rows count rows) = ⊥
MayAnswer columns (Insert values) (Changed n) = n ≡ 1
MayAnswer columns (Insert values) Duplicate = IsSome (key_place columns)
MayAnswer columns (Update assignments conditions) (Rows count rows) = ⊥
MayAnswer columns (Update assignments conditions) (Changed n) = ⊤
MayAnswer columns (Update assignments conditions) Duplicate = ⊥
MayAnswer columns (Delete conditions) (Rows count rows) = ⊥
MayAnswer columns (Delete conditions) (Changed n) = ⊤
MayAnswer columns (Delete conditions) Duplicate = ⊥

-- The same of a statement over these tables.
abbrev pub IsAnswerOf : List Table → Statement → Answer → Type 0
IsAnswerOf tables statement answer = MayAnswer (columns_of tables statement.table) statement.action answer

-- Where rows are told, a statement answers what it means on them and leaves what it means to leave; where it has no answer the rows are as they were. Where none are told, it answers what it may, and none are told later.
abbrev pub Runs : List Table → Statement → List Value → Option (List (List (List Value))) → Option (List (List (List Value))) → Result Answer RunError → Type 0
Runs tables statement args None now (Ok answer) = IsAnswerOf tables statement answer × (now ≡ None)
Runs tables statement args None now (Err e) = now ≡ None
Runs tables statement args (Some rows) now (Ok answer) = (answer ≡ (mean tables statement args rows).0) × (now ≡ Some (mean tables statement args rows).1)
Runs tables statement args (Some rows) now (Err e) = now ≡ Some rows

-- The action is a SELECT.
abbrev pub is_select : Action → Bool
is_select (Select selection) = true
is_select (Insert values) = false
is_select (Update assignments conditions) = false
is_select (Delete conditions) = false

-- What may be pinned of a SELECT: where rows are told, what it means on them; where none are told, what it may answer.
abbrev pub Pins : List Table → Statement → List Value → Option (List (List (List Value))) → Answer → Type 0
Pins tables statement args None answer = IsAnswerOf tables statement answer
Pins tables statement args (Some rows) answer = answer ≡ (mean tables statement args rows).0

-- The value of an answer's row in one of its columns.
abbrev pub cell_of : List (List Value) → ℕ → ℕ → Value
cell_of rows row column = at_column (slice_index_or rows row []) column
