-- The SQL of statements and of tables. Tables and columns are named by their numbers; each value is handed apart, at the `?` of its place.
use Rattle.std.specs.Prelude.{ℕ, ◌+◌, ◌-◌, nat_lt, Bool, true, false, List, [], ◌∷◌, ◌++◌, Option, Some, None, codes, decimal, length, if◌then◌else◌}
use Rattle.std.specs.Str.{is_utf8}
use Rattle.std.specs.List.{join_by, repeat}
use Rattle.okws_base.specs.declared.value.Kind.{Kind}
use Rattle.okws_base.specs.declared.value.Kind.TheVariants as kind
use Rattle.okws_plan.specs.declared.configuration.Column.{Column}
use Rattle.okws_plan.specs.declared.configuration.Table.{Table}
use Rattle.okws_plan.specs.declared.statement.Comparison.{Comparison}
use Rattle.okws_plan.specs.declared.statement.Comparison.TheVariants as comparison
use Rattle.okws_plan.specs.declared.statement.Condition.{Condition}
use Rattle.okws_plan.specs.declared.statement.Assignment.{Assignment}
use Rattle.okws_plan.specs.declared.statement.Join.{Join}
use Rattle.okws_plan.specs.declared.statement.Selection.{Selection}
use Rattle.okws_plan.specs.declared.statement.Action.{Action}
use Rattle.okws_plan.specs.declared.statement.Action.TheVariants.{Select, Insert, Update, Delete}

-- The name of table t.
abbrev pub table_name : ℕ → List ℕ
table_name t = codes "t" ++ decimal t

-- The name of column c.
abbrev pub column_name : ℕ → List ℕ
column_name c = codes "c" ++ decimal c

-- A comparison with the value of its place.
abbrev pub comparison_sql : Comparison → List ℕ
comparison_sql comparison.Equal = codes " = ?"
comparison_sql comparison.Differs = codes " <> ?"
comparison_sql comparison.Below = codes " < ?"
comparison_sql comparison.AtMost = codes " <= ?"
comparison_sql comparison.Above = codes " > ?"
comparison_sql comparison.AtLeast = codes " >= ?"

-- A column, compared with the value of its place.
abbrev pub condition_sql : Condition → List ℕ
condition_sql c = column_name c.column ++ comparison_sql c.comparison

-- All conditions are to be met; no text where there are none.
abbrev pub where_sql : List Condition → List ℕ
where_sql [] = []
where_sql (c ∷ more) = codes " WHERE " ++ join_by condition_sql (codes " AND ") (c ∷ more)

-- A column that is set to the value of its place.
abbrev pub assignment_sql : Assignment → List ℕ
assignment_sql a = column_name a.column ++ codes " = ?"

-- Rows come by a column, if any is given, and then in the order in which they were inserted.
abbrev pub order_sql : Option ℕ → List ℕ
order_sql None = codes " ORDER BY id"
order_sql (Some c) = codes " ORDER BY " ++ column_name c ++ codes ", id"

-- The first n rows alone, where a limit is given.
abbrev pub limit_sql : Option ℕ → List ℕ
limit_sql None = []
limit_sql (Some n) = codes " LIMIT " ++ decimal n

-- The SELECT of a table's columns, in the order in which they are listed.
abbrev pub select_sql : ℕ → Selection → List ℕ
select_sql t s = codes "SELECT " ++ join_by column_name (codes ", ") s.columns ++ codes " FROM t" ++ decimal t ++ where_sql s.conditions ++ order_sql s.order ++ limit_sql s.limit

-- Column c of joined rows: one of table t, which has n columns, or else one of table u.
abbrev pub side_name : ℕ → ℕ → ℕ → ℕ → List ℕ
side_name n t u c = if nat_lt c n then table_name t ++ codes "." ++ column_name c else table_name u ++ codes "." ++ column_name (c - n)

-- A column of joined rows, compared with the value of its place.
abbrev pub side_condition_sql : ℕ → ℕ → ℕ → Condition → List ℕ
side_condition_sql n t u c = side_name n t u c.column ++ comparison_sql c.comparison

-- All conditions are to be met; no text where there are none.
abbrev pub side_where_sql : ℕ → ℕ → ℕ → List Condition → List ℕ
side_where_sql n t u [] = []
side_where_sql n t u (c ∷ more) = codes " WHERE " ++ join_by (side_condition_sql n t u) (codes " AND ") (c ∷ more)

-- Joined rows come in the order of their rows of t, and then of u.
abbrev pub pair_order_sql : ℕ → ℕ → List ℕ
pair_order_sql t u = codes "t" ++ decimal t ++ codes ".id, t" ++ decimal u ++ codes ".id"

-- Joined rows come by a column, if any is given, and then in their order.
abbrev pub side_order_sql : ℕ → ℕ → ℕ → Option ℕ → List ℕ
side_order_sql n t u None = codes " ORDER BY " ++ pair_order_sql t u
side_order_sql n t u (Some c) = codes " ORDER BY " ++ side_name n t u c ++ codes ", " ++ pair_order_sql t u

-- The two tables, and the columns in which joined rows are equal.
abbrev pub pair_sql : ℕ → ℕ → ℕ → ℕ → ℕ → List ℕ
pair_sql n t u left right = codes " FROM t" ++ decimal t ++ codes " JOIN t" ++ decimal u ++ codes " ON " ++ side_name n t u left ++ codes " = " ++ side_name n t u right

-- The SELECT of columns of joined rows, in the order in which they are listed.
abbrev pub join_sql : ℕ → ℕ → Selection → Join → List ℕ
join_sql n t s join =
    codes "SELECT " ++ join_by (side_name n t join.table) (codes ", ") s.columns ++ pair_sql n t join.table join.left join.right
    ++ side_where_sql n t join.table s.conditions ++ side_order_sql n t join.table s.order ++ limit_sql s.limit

-- The SELECT from table t, which has n columns, or from it and a second one.
abbrev pub selection_sql : ℕ → ℕ → Selection → Option Join → List ℕ
selection_sql n t s None = select_sql t s
selection_sql n t s (Some join) = join_sql n t s join

-- A row of n values, whose own key the database gives.
abbrev pub insert_sql : ℕ → ℕ → List ℕ
insert_sql t n = codes "INSERT INTO t" ++ decimal t ++ codes " VALUES (NULL" ++ repeat n (codes ", ?") ++ codes ")"

-- The UPDATE of the rows that meet the conditions.
abbrev pub update_sql : ℕ → List Assignment → List Condition → List ℕ
update_sql t assignments conditions = codes "UPDATE t" ++ decimal t ++ codes " SET " ++ join_by assignment_sql (codes ", ") assignments ++ where_sql conditions

-- The DELETE of the rows that meet the conditions.
abbrev pub delete_sql : ℕ → List Condition → List ℕ
delete_sql t conditions = codes "DELETE FROM t" ++ decimal t ++ where_sql conditions

-- The SQL of an action at table t, which has n columns.
abbrev pub sql_of : ℕ → ℕ → Action → List ℕ
sql_of n t (Select s) = selection_sql n t s s.join
sql_of n t (Insert values) = insert_sql t (length values)
sql_of n t (Update assignments conditions) = update_sql t assignments conditions
sql_of n t (Delete conditions) = delete_sql t conditions

-- The type of a column; no value is NULL.
abbrev pub kind_sql : Kind → List ℕ
kind_sql kind.Int = codes " INTEGER NOT NULL"
kind_sql kind.Text = codes " TEXT NOT NULL"
kind_sql kind.Bytes = codes " BLOB NOT NULL"

-- The value of a KEY may stand in one row only.
abbrev pub key_sql : Bool → List ℕ
key_sql true = codes " UNIQUE"
key_sql false = []

-- A name, as a comment.
abbrev pub label_sql : List ℕ → List ℕ
label_sql name = if is_utf8 name then codes " /* " ++ name ++ codes " */" else []

-- The columns, the first of which has number at, each with its name.
abbrev pub columns_sql : ℕ → List Column → List ℕ
columns_sql at [] = []
columns_sql at (c ∷ more) = codes ", " ++ column_name at ++ label_sql c.name ++ kind_sql c.kind ++ key_sql c.key ++ columns_sql (at + 1) more

-- A table with its name and its columns, behind a key of its own, which no row has twice, even after it is deleted, and which rises with each insertion.
abbrev pub create_sql : ℕ → Table → List ℕ
create_sql t table = codes "CREATE TABLE t" ++ decimal t ++ label_sql table.name ++ codes " (id INTEGER PRIMARY KEY AUTOINCREMENT" ++ columns_sql 0 table.columns ++ codes ") STRICT"

-- Asks how a table was made.
abbrev pub schema_sql : List ℕ
schema_sql = codes "SELECT sql FROM sqlite_schema WHERE type = 'table' AND name = ?"
