-- What a statement answers on tables, and the tables that it leaves. A table is a list of rows in the order of insertion.
use Rattle.std.specs.Prelude.{ℕ, ◌-◌, Bool, true, false, List, [], ◌∷◌, ◌++◌, Option, Some, None, not, if◌then◌else◌, slice_index_or, slice_set, length, filter, map, flat_map, take, fold, insert, pos, slice_get, position}
use Rattle.std.specs.List.{list_any, list_all, position_or_len, range_with_len}
use Rattle.std.specs.Ordering.{is_lt}
use Rattle.okws_base.specs.Value.{value_cmp, value_eq}
use Rattle.okws_base.specs.declared.value.Value.{Value}
use Rattle.okws_base.specs.declared.value.Value.TheVariants.{Int}
use Rattle.okws_plan.specs.Comparing.{passes}
use Rattle.okws_plan.specs.declared.configuration.Column.{Column}
use Rattle.okws_plan.specs.declared.configuration.Table.{Table}
use Rattle.okws_plan.specs.declared.statement.Operand.{Operand}
use Rattle.okws_plan.specs.declared.statement.Operand.TheVariants.{Parameter, Literal}
use Rattle.okws_plan.specs.declared.statement.Condition.{Condition}
use Rattle.okws_plan.specs.declared.statement.Assignment.{Assignment}
use Rattle.okws_plan.specs.declared.statement.Join.{Join}
use Rattle.okws_plan.specs.declared.statement.Selection.{Selection}
use Rattle.okws_plan.specs.declared.statement.Action.{Action}
use Rattle.okws_plan.specs.declared.statement.Action.TheVariants.{Select, Insert, Update, Delete}
use Rattle.okws_plan.specs.declared.statement.Statement.{Statement}
use Rattle.okws_plan.specs.declared.statement.Answer.{Answer}
use Rattle.okws_plan.specs.declared.statement.Answer.TheVariants.{Rows, Changed, Duplicate}

-- What stands where a number is no column's or argument's; in a statement that keeps the rules there is none such.
abbrev pub nothing : Value
nothing = Int (pos 0)

-- The value of a row in a column.
abbrev pub at_column : List Value → ℕ → Value
at_column row c = slice_index_or row c nothing

-- An operand is a literal, or an argument by its number from 1.
abbrev pub operand : List Value → Operand → Value
operand args (Parameter n) = slice_index_or args (n - 1) nothing
operand args (Literal v) = v

-- A row meets a condition.
abbrev pub meets : List Value → Condition → List Value → Bool
meets args condition row = passes condition.comparison (value_cmp (at_column row condition.column) (operand args condition.operand))

-- A row meets all conditions.
abbrev pub meets_all : List Value → List Condition → List Value → Bool
meets_all args conditions row = list_all (λ (c : Condition). meets args c row) conditions

-- The hits are the rows that meet all conditions.
abbrev pub hits : List Value → List Condition → List (List Value) → List (List Value)
hits args conditions rows = filter (λ (row : List Value). meets_all args conditions row) rows

-- The rows that do not meet all conditions.
abbrev pub misses : List Value → List Condition → List (List Value) → List (List Value)
misses args conditions rows = filter (λ (row : List Value). not (meets_all args conditions row)) rows

-- The first row that is above the new one by this column, or the end.
abbrev pub place_of : ℕ → List (List Value) → List Value → ℕ
place_of c sorted row = position_or_len (λ (other : List Value). is_lt (value_cmp (at_column row c) (at_column other c))) sorted

-- The row is put behind the rows that are not above it.
abbrev pub put_by : ℕ → List (List Value) → List Value → List (List Value)
put_by c sorted row = insert sorted (place_of c sorted row) row

-- The rows, stably ordered by a column: each goes behind those before it that are not above it.
abbrev pub ordered_by : ℕ → List (List Value) → List (List Value)
ordered_by c rows = fold (put_by c) [] rows

-- The rows, ordered by a column where one is given.
abbrev pub ordered : Option ℕ → List (List Value) → List (List Value)
ordered None rows = rows
ordered (Some c) rows = ordered_by c rows

-- The first n rows where a limit is given.
abbrev pub limited : Option ℕ → List (List Value) → List (List Value)
limited None rows = rows
limited (Some n) rows = take n rows

-- A row, cut to the listed columns.
abbrev pub cut : List ℕ → List Value → List Value
cut columns row = map (λ (c : ℕ). at_column row c) columns

-- Each row, cut to the listed columns.
abbrev pub cut_all : List ℕ → List (List Value) → List (List Value)
cut_all columns rows = map (λ (row : List Value). cut columns row) rows

-- A row of one table before a row of another: so many values of the first, then those of the second.
abbrev pub laid : ℕ → List Value → List Value → List Value
laid n first second = cut (range_with_len 0 n) first ++ second

-- A joined row is equal in the two columns of the join.
abbrev pub is_joined : Join → List Value → Bool
is_joined join row = value_eq (at_column row join.left) (at_column row join.right)

-- What a row of the first table is joined to: it before each row of the second that is equal to it, in the order of these.
abbrev pub joined_to : ℕ → Join → List (List Value) → List Value → List (List Value)
joined_to n join second row = filter (is_joined join) (map (laid n row) second)

-- The joined rows of two tables, by the order of the first and then of the second. The first has n columns.
abbrev pub joined_rows : ℕ → Join → List (List Value) → List (List Value) → List (List Value)
joined_rows n join first second = flat_map (joined_to n join second) first

-- The rows that a SELECT reads: those of its table, of n columns, or what they are joined to of the rows T of all tables.
abbrev pub read_rows : ℕ → Option Join → List (List (List Value)) → List (List Value) → List (List Value)
read_rows n None T rows = rows
read_rows n (Some join) T rows = joined_rows n join rows (slice_index_or T join.table [])

-- The column that is marked as KEY, if there is one.
abbrev pub key_place : List Column → Option ℕ
key_place columns = position (λ (c : Column). c.key) columns

-- A row has the new row's value in the KEY column, where there is one.
abbrev pub is_taken_at : Option ℕ → List (List Value) → List Value → Bool
is_taken_at None rows new = false
is_taken_at (Some k) rows new = list_any (λ (row : List Value). value_eq (at_column row k) (at_column new k)) rows

-- The new row's KEY value is in a row already.
abbrev pub is_taken : List Column → List (List Value) → List Value → Bool
is_taken columns rows new = is_taken_at (key_place columns) rows new

-- INSERT answers Duplicate, and the rows stay, where the KEY value is taken; else Changed(1), and the row is appended.
abbrev pub inserted : Bool → List (List Value) → List Value → Answer × List (List Value)
inserted true rows new = (Duplicate, rows)
inserted false rows new = (Changed 1, rows ++ new ∷ [])

-- The row with each assignment made.
abbrev pub assigned : List Value → List Assignment → List Value → List Value
assigned args assignments row = fold (λ (r : List Value) (a : Assignment). slice_set r a.column (operand args a.operand)) row assignments

-- The hits are replaced in place.
abbrev pub updated : List Value → List Assignment → List Condition → List (List Value) → List (List Value)
updated args assignments conditions rows = map (λ (row : List Value). if meets_all args conditions row then assigned args assignments row else row) rows

-- The columns of a table that may not be there.
abbrev pub columns_in : Option Table → List Column
columns_in None = []
columns_in (Some table) = table.columns

-- The columns of table t.
abbrev pub columns_of : List Table → ℕ → List Column
columns_of tables t = columns_in (slice_get tables t)

-- The row that an INSERT appends.
abbrev pub row_of : List Value → List Operand → List Value
row_of args values = map (λ (v : Operand). operand args v) values

-- What a SELECT answers on the rows that it reads: the hits, stably ordered, the first n, cut to the listed columns.
abbrev pub selection_answer : List Value → Selection → List (List Value) → Answer
selection_answer args selection rows =
    Rows (length selection.columns) (cut_all selection.columns (limited selection.limit (ordered selection.order (hits args selection.conditions rows))))

-- What an action answers on the rows of its table, and the rows that it leaves. T are the rows of all tables.
-- SELECT: its answer on the rows that it reads, and the rows stay.
-- INSERT: Duplicate, and the rows stay, where the KEY value is there; else Changed(1) and the row appended.
-- UPDATE: the hits replaced in place. DELETE: the hits taken out. Both answer the number of hits.
abbrev pub mean_on : List Column → List (List (List Value)) → Action → List Value → List (List Value) → Answer × List (List Value)
mean_on columns T (Select selection) args rows = (selection_answer args selection (read_rows (length columns) selection.join T rows), rows)
mean_on columns T (Insert values) args rows =
    inserted (is_taken columns rows (row_of args values)) rows (row_of args values)
mean_on columns T (Update assignments conditions) args rows =
    (Changed (length (hits args conditions rows)), updated args assignments conditions rows)
mean_on columns T (Delete conditions) args rows =
    (Changed (length (hits args conditions rows)), misses args conditions rows)

-- What was done on one table's rows, done on all tables: the others stay.
abbrev pub on_table : List (List (List Value)) → ℕ → Answer × List (List Value) → Answer × List (List (List Value))
on_table T t done = (done.0, slice_set T t done.1)

-- What a statement answers on the rows of all tables, and the rows that it leaves: those of its own table, and the others as they were.
abbrev pub mean : List Table → Statement → List Value → List (List (List Value)) → Answer × List (List (List Value))
mean tables st args T = on_table T st.table (mean_on (columns_of tables st.table) T st.action args (slice_index_or T st.table []))
