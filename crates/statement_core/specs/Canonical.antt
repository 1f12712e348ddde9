-- The canonical text of a statement.
use Rattle.std.specs.Prelude.{ℕ, ◌-◌, nat_lt, length, codes, Bool, true, false, List, [], ◌∷◌, ◌++◌, Option, Some, None, slice_get, if◌then◌else◌}
use Rattle.okws_plan.specs.Meaning.{columns_of}
use Rattle.okws_plan.specs.declared.configuration.Column.{Column}
use Rattle.okws_plan.specs.declared.configuration.Table.{Table}
use Rattle.okws_plan.specs.declared.statement.Operand.{Operand}
use Rattle.okws_plan.specs.declared.statement.Operand.TheVariants as operand
use Rattle.okws_plan.specs.declared.statement.Condition.{Condition}
use Rattle.okws_plan.specs.declared.statement.Assignment.{Assignment}
use Rattle.okws_plan.specs.declared.statement.Join.{Join}
use Rattle.okws_plan.specs.declared.statement.Selection.{Selection}
use Rattle.okws_plan.specs.declared.statement.Action.{Action}
use Rattle.okws_plan.specs.declared.statement.Action.TheVariants as action
use Rattle.okws_plan.specs.declared.statement.Statement.{Statement}
use Rattle.query_syntax.specs.Spelling.{joined, comparison_sign, limit_tokens}
use Rattle.query_syntax.specs.declared.token.Fixed.{Fixed}
use Rattle.query_syntax.specs.declared.token.Fixed.TheVariants as fixed
use Rattle.query_syntax.specs.declared.token.Token.{Token}
use Rattle.query_syntax.specs.declared.token.Token.TheVariants as token

-- The name of a column; none where there is no such column, as in no statement that keeps the rules.
abbrev pub name_of_column : Option Column → List ℕ
name_of_column None = []
name_of_column (Some column) = column.name

-- The name of a column by its number.
abbrev pub column_token : List Column → ℕ → Token
column_token columns c = token.Word (name_of_column (slice_get columns c))

-- The name of a table; none where there is no such table, as for no statement that keeps the rules.
abbrev pub name_of_table : Option Table → List ℕ
name_of_table None = []
name_of_table (Some table) = table.name

-- The name of a table by its number.
abbrev pub table_token : List Table → ℕ → Token
table_token tables t = token.Word (name_of_table (slice_get tables t))

-- A parameter or a literal is one token.
abbrev pub operand_token : Operand → Token
operand_token (operand.Parameter n) = token.Parameter n
operand_token (operand.Literal v) = token.Literal v

-- a separator, before each item but the first
abbrev pub before : Bool → Fixed → List Token
before is_first separator = if is_first then [] else token.Fixed separator ∷ []

-- c {, c}
abbrev pub column_tokens : List Column → Bool → List ℕ → List Token
column_tokens columns is_first [] = []
column_tokens columns is_first (c ∷ more) = (before is_first fixed.Comma ++ column_token columns c ∷ []) ++ column_tokens columns false more

-- the columns of a table, by name
abbrev pub all_column_tokens : Bool → List Column → List Token
all_column_tokens is_first [] = []
all_column_tokens is_first (c ∷ more) = (before is_first fixed.Comma ++ token.Word c.name ∷ []) ++ all_column_tokens false more

-- v {, v}
abbrev pub operand_tokens : Bool → List Operand → List Token
operand_tokens is_first [] = []
operand_tokens is_first (v ∷ more) = (before is_first fixed.Comma ++ operand_token v ∷ []) ++ operand_tokens false more

-- c = v {, c = v}
abbrev pub assignment_tokens : List Column → Bool → List Assignment → List Token
assignment_tokens columns is_first [] = []
assignment_tokens columns is_first (a ∷ more) =
    (before is_first fixed.Comma ++ column_token columns a.column ∷ token.Fixed fixed.Equal ∷ operand_token a.operand ∷ []) ++ assignment_tokens columns false more

-- WHERE c op v {AND c op v}, and nothing without a condition
abbrev pub condition_tokens : List Column → Bool → List Condition → List Token
condition_tokens columns is_first [] = []
condition_tokens columns is_first (c ∷ more) =
    (token.Fixed (if is_first then fixed.Where else fixed.And) ∷ column_token columns c.column ∷ token.Fixed (comparison_sign c.comparison) ∷ operand_token c.operand ∷ [])
    ++ condition_tokens columns false more

-- ORDER BY c, and nothing without an order.
abbrev pub order_tokens : List Column → Option ℕ → List Token
order_tokens columns None = []
order_tokens columns (Some c) = token.Fixed fixed.Order ∷ token.Fixed fixed.By ∷ column_token columns c ∷ []

-- The tokens of an action on one table, of this name, in the order of the grammar.
abbrev pub action_tokens : List Column → Token → Action → List Token
action_tokens columns table (action.Select s) =
    ((((token.Fixed fixed.Select ∷ []) ++ column_tokens columns true s.columns) ++ token.Fixed fixed.From ∷ table ∷ []) ++ condition_tokens columns true s.conditions ++ order_tokens columns s.order) ++ limit_tokens s.limit
action_tokens columns table (action.Insert values) =
    ((((token.Fixed fixed.Insert ∷ token.Fixed fixed.Into ∷ table ∷ token.Fixed fixed.Open ∷ []) ++ all_column_tokens true columns) ++ token.Fixed fixed.Close ∷ token.Fixed fixed.Values ∷ token.Fixed fixed.Open ∷ []) ++ operand_tokens true values) ++ token.Fixed fixed.Close ∷ []
action_tokens columns table (action.Update assignments conditions) =
    ((token.Fixed fixed.Update ∷ table ∷ token.Fixed fixed.Set ∷ []) ++ assignment_tokens columns true assignments) ++ condition_tokens columns true conditions
action_tokens columns table (action.Delete conditions) =
    (token.Fixed fixed.Delete ∷ token.Fixed fixed.From ∷ table ∷ []) ++ condition_tokens columns true conditions

-- t.c: a column of joined rows behind the name of its table, where the first table has number t and the second number u.
abbrev pub side_tokens : List Table → ℕ → ℕ → ℕ → List Token
side_tokens tables t u c =
    if nat_lt c (length (columns_of tables t)) then table_token tables t ∷ token.Fixed fixed.Dot ∷ column_token (columns_of tables t) c ∷ []
    else table_token tables u ∷ token.Fixed fixed.Dot ∷ column_token (columns_of tables u) (c - length (columns_of tables t)) ∷ []

-- t.c {, t.c}, where each column is spelled so
abbrev pub side_list_tokens : (ℕ → List Token) → Bool → List ℕ → List Token
side_list_tokens spell is_first [] = []
side_list_tokens spell is_first (c ∷ more) = (before is_first fixed.Comma ++ spell c) ++ side_list_tokens spell false more

-- WHERE t.c op v {AND t.c op v}, and nothing without a condition
abbrev pub side_condition_tokens : (ℕ → List Token) → Bool → List Condition → List Token
side_condition_tokens spell is_first [] = []
side_condition_tokens spell is_first (c ∷ more) =
    (((token.Fixed (if is_first then fixed.Where else fixed.And) ∷ []) ++ spell c.column) ++ token.Fixed (comparison_sign c.comparison) ∷ operand_token c.operand ∷ [])
    ++ side_condition_tokens spell false more

-- ORDER BY t.c, and nothing without an order.
abbrev pub side_order_tokens : (ℕ → List Token) → Option ℕ → List Token
side_order_tokens spell None = []
side_order_tokens spell (Some c) = (token.Fixed fixed.Order ∷ token.Fixed fixed.By ∷ []) ++ spell c

-- FROM t JOIN u ON t.c = u.d
abbrev pub sides_tokens : (ℕ → List Token) → Token → Token → Join → List Token
sides_tokens spell table second join =
    (((token.Fixed fixed.From ∷ table ∷ token.Word (codes "JOIN") ∷ second ∷ token.Word (codes "ON") ∷ []) ++ spell join.left) ++ token.Fixed fixed.Equal ∷ []) ++ spell join.right

-- The tokens of a SELECT from two tables of these names, where each column is spelled so.
abbrev pub pair_tokens : (ℕ → List Token) → Token → Token → Join → Selection → List Token
pair_tokens spell table second join s =
    (((((token.Fixed fixed.Select ∷ []) ++ side_list_tokens spell true s.columns) ++ sides_tokens spell table second join) ++ side_condition_tokens spell true s.conditions) ++ side_order_tokens spell s.order) ++ limit_tokens s.limit

-- The tokens of a SELECT from table t.
abbrev pub select_tokens : List Table → ℕ → Selection → Option Join → List Token
select_tokens tables t s None = action_tokens (columns_of tables t) (table_token tables t) (action.Select s)
select_tokens tables t s (Some join) = pair_tokens (side_tokens tables t join.table) (table_token tables t) (table_token tables join.table) join s

-- The tokens of an action at table t.
abbrev pub tokens_at : List Table → ℕ → Action → List Token
tokens_at tables t (action.Select s) = select_tokens tables t s s.join
tokens_at tables t (action.Insert values) = action_tokens (columns_of tables t) (table_token tables t) (action.Insert values)
tokens_at tables t (action.Update assignments conditions) = action_tokens (columns_of tables t) (table_token tables t) (action.Update assignments conditions)
tokens_at tables t (action.Delete conditions) = action_tokens (columns_of tables t) (table_token tables t) (action.Delete conditions)

-- The tokens of a statement.
abbrev pub statement_tokens : List Table → Statement → List Token
statement_tokens tables st = tokens_at tables st.table st.action

-- The canonical text of a statement on these tables.
abbrev pub canonical : List Table → Statement → List ℕ
canonical tables st = joined true (statement_tokens tables st)
