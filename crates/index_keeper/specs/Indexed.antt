-- Which columns have an index, and what the keeper finds on all its tables.
use Rattle.std.specs.Prelude.{ℕ, ◌+◌, Bool, false, ◌&&◌, ◌||◌, ◌==◌, List, [], Option, Some, None, length, map, filter, slice_get, min}
use Rattle.std.specs.List.{list_any, range_with_len}
use Rattle.okws_base.specs.declared.value.Value.{Value}
use Rattle.okws_plan.specs.Meaning.{columns_of, meets_all}
use Rattle.okws_plan.specs.declared.configuration.Column.{Column}
use Rattle.okws_plan.specs.declared.configuration.Query.{Query}
use Rattle.okws_plan.specs.declared.configuration.Table.{Table}
use Rattle.okws_plan.specs.declared.statement.Action.{Action}
use Rattle.okws_plan.specs.declared.statement.Action.TheVariants.{Select, Insert, Update, Delete}
use Rattle.okws_plan.specs.Rules.{join_of}
use Rattle.okws_plan.specs.declared.statement.Join.{Join}
use Rattle.okws_plan.specs.declared.statement.Condition.{Condition}
use Rattle.row_search.specs.Places.{Indexed, is_equality, places_where, rows_of, tests}

-- The conditions of an action; an INSERT has none.
abbrev pub conditions_of : Action → List Condition
conditions_of (Select selection) = selection.conditions
conditions_of (Insert values) = []
conditions_of (Update assignments conditions) = conditions
conditions_of (Delete conditions) = conditions

-- A query on table t compares column c by `=`.
abbrev pub compares : ℕ → ℕ → Query → Bool
compares t c query = (query.statement.table == t) && list_any (λ (k : Condition). is_equality k.comparison && (k.column == c)) (conditions_of query.statement.action)

-- A column that may not be there is the KEY.
abbrev pub is_key : Option Column → Bool
is_key None = false
is_key (Some column) = column.key

-- A join whose first table has n columns names column c of its second table, which is table t.
abbrev pub joins_by : ℕ → ℕ → ℕ → Option Join → Bool
joins_by n t c None = false
joins_by n t c (Some join) = (join.table == t) && ((join.left == n + c) || (join.right == n + c))

-- A query joins table t, as its second, by column c.
abbrev pub joins_at : List Table → ℕ → ℕ → Query → Bool
joins_at tables t c query = joins_by (length (columns_of tables query.statement.table)) t c (join_of query.statement.action)

-- Column c of table t has an index: it is the KEY, or some query compares it by `=` or joins the table by it.
abbrev pub is_wanted : List Table → List Query → ℕ → List Column → ℕ → Bool
is_wanted tables queries t columns c = is_key (slice_get columns c) || (list_any (compares t c) queries || list_any (joins_at tables t c) queries)

-- The columns of table t that have an index, ascending. A statement has numbers for 256 columns.
abbrev pub wanted : List Table → List Query → ℕ → List Column → List ℕ
wanted tables queries t columns = filter (is_wanted tables queries t columns) (range_with_len 0 (min 256 (length columns)))

-- The columns of each table that have an index.
abbrev pub wanted_by : List Table → List Query → List (List ℕ)
wanted_by tables queries = map (λ (t : ℕ). wanted tables queries t (columns_of tables t)) (range_with_len 0 (length tables))

-- The rows of a table that may not be there.
abbrev pub table_at : Option Indexed → List (ℕ × List Value)
table_at None = []
table_at (Some rows) = rows.entries

-- The columns that have an index in a table that may not be there.
abbrev pub indexed_at : Option Indexed → List ℕ
indexed_at None = []
indexed_at (Some rows) = rows.columns

-- The places of the hits of an action on table t, ascending; an INSERT has none.
abbrev pub hit_places : List Indexed → ℕ → Action → List Value → List ℕ
hit_places rows t (Insert values) args = []
hit_places rows t (Select selection) args = places_where (meets_all args selection.conditions) (table_at (slice_get rows t))
hit_places rows t (Update assignments conditions) args = places_where (meets_all args conditions) (table_at (slice_get rows t))
hit_places rows t (Delete conditions) args = places_where (meets_all args conditions) (table_at (slice_get rows t))

-- How many rows are tested to find the hits of an action on table t.
abbrev pub hit_tests : List Indexed → ℕ → Action → List Value → ℕ
hit_tests rows t (Insert values) args = 0
hit_tests rows t (Select selection) args = tests (indexed_at (slice_get rows t)) args selection.conditions (rows_of (table_at (slice_get rows t)))
hit_tests rows t (Update assignments conditions) args = tests (indexed_at (slice_get rows t)) args conditions (rows_of (table_at (slice_get rows t)))
hit_tests rows t (Delete conditions) args = tests (indexed_at (slice_get rows t)) args conditions (rows_of (table_at (slice_get rows t)))
