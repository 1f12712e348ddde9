-- How joined rows are found.
use Rattle.std.specs.Prelude.{ℕ, ◌-◌, nat_lt, List, [], length, filter, slice_index_or, if◌then◌else◌}
use Rattle.okws_base.specs.declared.value.Value.{Value}
use Rattle.okws_plan.specs.Meaning.{at_column, hits, joined_rows, columns_of, ordered, limited, cut_all}
use Rattle.okws_plan.specs.declared.statement.Comparison.TheVariants.{Equal}
use Rattle.okws_plan.specs.declared.statement.Operand.TheVariants.{Literal}
use Rattle.okws_plan.specs.declared.configuration.Table.{Table}
use Rattle.okws_plan.specs.declared.statement.Condition.{Condition}
use Rattle.okws_plan.specs.declared.statement.Join.{Join}
use Rattle.okws_plan.specs.declared.statement.Selection.{Selection}

-- The join's column of the first table, which has n columns.
abbrev pub own_column : ℕ → Join → ℕ
own_column n join = if nat_lt join.left n then join.left else join.right

-- The join's column of the second table, as that table counts it: in the join it stands behind the n columns of the first.
abbrev pub other_column : ℕ → Join → ℕ
other_column n join = (if nat_lt join.left n then join.right else join.left) - n

-- The condition that a row of the second table is equal to this one of the first.
abbrev pub equal_to : ℕ → Join → List Value → Condition
equal_to n join row = record { column = other_column n join; comparison = Equal; operand = Literal (at_column row (own_column n join)) }

-- The conditions on columns of the first table.
abbrev pub own_conditions : ℕ → List Condition → List Condition
own_conditions n conditions = filter (λ (c : Condition). nat_lt c.column n) conditions

-- The joined rows that meet the conditions.
abbrev pub joined_hits : List Value → ℕ → Join → Selection → List (List Value) → List (List Value) → List (List Value)
joined_hits args n join selection first second = hits args selection.conditions (joined_rows n join first second)

-- The rows that a SELECT from table t and a second one answers, where the tables have the rows T.
abbrev pub join_rows : List Table → List (List (List Value)) → ℕ → Selection → Join → List Value → List (List Value)
join_rows tables T t s join args =
    cut_all s.columns (limited s.limit (ordered s.order (joined_hits args (length (columns_of tables t)) join s (slice_index_or T t []) (slice_index_or T join.table []))))
