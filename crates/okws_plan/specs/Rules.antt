-- The rules of the query language that a compiled statement keeps for the tables that it was compiled for.
use Rattle.std.specs.Prelude.{◌≡◌, ℕ, ◌-◌, Bool, true, false, not, ◌&&◌, ◌||◌, ◌==◌, nat_lt, nat_le, if◌then◌else◌, List, [], ◌∷◌, ◌++◌, length, Option, Some, None, slice_get}
use Rattle.std.specs.List.{list_all, list_any}
use Rattle.okws_base.specs.Value.{same_kind, kind_of}
use Rattle.okws_base.specs.declared.limit.TheConstants.{MOST_COLUMNS, MOST_CONDITIONS, MOST_PARAMETERS, GREATEST_LIMIT}
use Rattle.okws_base.specs.declared.value.Kind.{Kind}
use Rattle.okws_plan.specs.Configuration.{numbered_from, query, tables}
use Rattle.okws_plan.specs.Meaning.{columns_of}
use Rattle.okws_plan.specs.declared.configuration.Column.{Column}
use Rattle.okws_plan.specs.declared.configuration.Config.{Config}
use Rattle.okws_plan.specs.declared.configuration.Query.{Query}
use Rattle.okws_plan.specs.declared.configuration.Table.{Table}
use Rattle.okws_plan.specs.declared.statement.Operand.{Operand}
use Rattle.okws_plan.specs.declared.statement.Operand.TheVariants.{Parameter, Literal}
use Rattle.okws_plan.specs.declared.statement.Condition.{Condition}
use Rattle.okws_plan.specs.declared.statement.Assignment.{Assignment}
use Rattle.okws_plan.specs.declared.statement.Join.{Join}
use Rattle.okws_plan.specs.declared.statement.Selection.{Selection}
use Rattle.okws_plan.specs.declared.statement.Action.{Action}
use Rattle.okws_plan.specs.declared.statement.Action.TheVariants.{Select, Insert, Update, Delete}
use Rattle.okws_plan.specs.declared.statement.Statement.{Statement}

-- A kind that may not be there is this one.
abbrev pub is_of_kind : Kind → Option Kind → Bool
is_of_kind kind None = false
is_of_kind kind (Some other) = same_kind other kind

-- An operand fits a kind: a literal is of it, and a parameter has a number from 1 on and is of it.
abbrev pub operand_fits : List Kind → Kind → Operand → Bool
operand_fits parameters kind (Literal v) = same_kind (kind_of v) kind
operand_fits parameters kind (Parameter n) = nat_le 1 n && is_of_kind kind (slice_get parameters (n - 1))

-- An operand fits the kind of a column, where the column is there.
abbrev pub fits_column : List Kind → Option Column → Operand → Bool
fits_column parameters None operand = false
fits_column parameters (Some column) operand = operand_fits parameters column.kind operand

-- A condition's column is the table's, and its operand fits it.
abbrev pub condition_fits : List Column → List Kind → Condition → Bool
condition_fits columns parameters c = fits_column parameters (slice_get columns c.column) c.operand

-- A number is that of a column.
abbrev pub is_column : List Column → ℕ → Bool
is_column columns c = nat_lt c (length columns)

-- A column is there, and is no KEY.
abbrev pub may_be_set : Option Column → Bool
may_be_set None = false
may_be_set (Some column) = not column.key

-- An assignment's column is the table's and no KEY, and its operand fits it.
abbrev pub assignment_fits : List Column → List Kind → Assignment → Bool
assignment_fits columns parameters a = may_be_set (slice_get columns a.column) && fits_column parameters (slice_get columns a.column) a.operand

-- No column is set twice.
abbrev pub sets_each_once : List Assignment → Bool
sets_each_once [] = true
sets_each_once (a ∷ more) = not (list_any (λ (other : Assignment). other.column == a.column) more) && sets_each_once more

-- One operand for each column, which fits it.
abbrev pub operands_fit : List Column → List Kind → List Operand → Bool
operands_fit [] parameters [] = true
operands_fit [] parameters (v ∷ more) = false
operands_fit (column ∷ columns) parameters [] = false
operands_fit (column ∷ columns) parameters (v ∷ more) = operand_fits parameters column.kind v && operands_fit columns parameters more

-- At most 16 conditions, each of which fits.
abbrev pub conditions_fit : List Column → List Kind → List Condition → Bool
conditions_fit columns parameters conditions =
    nat_le (length conditions) MOST_CONDITIONS && list_all (λ (c : Condition). condition_fits columns parameters c) conditions

-- An order, if there is one, is by a column of the table.
abbrev pub order_fits : List Column → Option ℕ → Bool
order_fits columns None = true
order_fits columns (Some c) = is_column columns c

-- A limit, if there is one, is at most 1,000,000,000.
abbrev pub limit_fits : Option ℕ → Bool
limit_fits None = true
limit_fits (Some n) = nat_le n GREATEST_LIMIT

-- A SELECT lists 1 to 16 columns of the rows that it reads, orders by one of them if at all, and its limit is at most 1,000,000,000.
abbrev pub selection_fits : List Column → List Kind → Selection → Bool
selection_fits columns parameters s =
    nat_le 1 (length s.columns) && (nat_le (length s.columns) MOST_COLUMNS && (list_all (λ (c : ℕ). is_column columns c) s.columns
    && (conditions_fit columns parameters s.conditions && (order_fits columns s.order && limit_fits s.limit))))

-- What an action may do on rows of these columns, with parameters of these kinds. An UPDATE sets at least one column.
abbrev pub action_fits : List Column → List Kind → Action → Bool
action_fits columns parameters (Select s) = selection_fits columns parameters s
action_fits columns parameters (Insert values) = operands_fit columns parameters values
action_fits columns parameters (Update assignments conditions) =
    nat_le 1 (length assignments) && (list_all (λ (a : Assignment). assignment_fits columns parameters a) assignments
    && (sets_each_once assignments && conditions_fit columns parameters conditions))
action_fits columns parameters (Delete conditions) = conditions_fit columns parameters conditions

-- What an action joins its table's rows to, if it does.
abbrev pub join_of : Action → Option Join
join_of (Select s) = s.join
join_of (Insert values) = None
join_of (Update assignments conditions) = None
join_of (Delete conditions) = None

-- The columns of the rows that an action at table t reads: those of the table, and behind them those of the table that it joins.
abbrev pub read_columns : List Table → ℕ → Option Join → List Column
read_columns tables t None = columns_of tables t
read_columns tables t (Some join) = columns_of tables t ++ columns_of tables join.table

-- One of two numbers is below n, and the other isn't.
abbrev pub are_apart : ℕ → ℕ → ℕ → Bool
are_apart n a b = if nat_lt a n then not (nat_lt b n) else nat_lt b n

-- Two columns are there, and are of one kind.
abbrev pub are_of_kind : Option Column → Option Column → Bool
are_of_kind None other = false
are_of_kind (Some column) None = false
are_of_kind (Some column) (Some other) = same_kind column.kind other.kind

-- A join's table is declared and another than table t; its two columns are of one kind, and one is of each table.
abbrev pub join_fits : List Table → ℕ → Option Join → Bool
join_fits tables t None = true
join_fits tables t (Some join) =
    nat_lt join.table (length tables) && (not (join.table == t) && (are_apart (length (columns_of tables t)) join.left join.right
    && are_of_kind (slice_get (read_columns tables t (Some join)) join.left) (slice_get (read_columns tables t (Some join)) join.right)))

-- An operand is this parameter.
abbrev pub is_parameter : ℕ → Operand → Bool
is_parameter n (Parameter m) = m == n
is_parameter n (Literal v) = false

-- A parameter stands in one of the conditions.
abbrev pub stands_in_conditions : ℕ → List Condition → Bool
stands_in_conditions n conditions = list_any (λ (c : Condition). is_parameter n c.operand) conditions

-- Parameter n stands somewhere in an action.
abbrev pub stands_in : ℕ → Action → Bool
stands_in n (Select s) = stands_in_conditions n s.conditions
stands_in n (Insert values) = list_any (λ (v : Operand). is_parameter n v) values
stands_in n (Update assignments conditions) = list_any (λ (a : Assignment). is_parameter n a.operand) assignments || stands_in_conditions n conditions
stands_in n (Delete conditions) = stands_in_conditions n conditions

-- The statement keeps the rules of the query language for these tables: its table is declared, and what it joins is lawful; its columns are those of the rows that it reads, and what meets them is of their kinds; its parameters are 1 to m, at most 16, and each stands in it.
abbrev pub keeps_rules : List Table → Statement → Bool
keeps_rules tables st =
    nat_lt st.table (length tables) && (nat_le (length st.parameters) MOST_PARAMETERS
    && (join_fits tables st.table (join_of st.action) && (action_fits (read_columns tables st.table (join_of st.action)) st.parameters st.action
    && list_all (λ (n : ℕ). stands_in n st.action) (numbered_from 1 (length st.parameters)))))

-- Each query of proxy p keeps the rules of the query language for the proxy's tables.
abbrev pub QueriesKeepRules : Config → ℕ → Type 0
QueriesKeepRules C p = (q : ℕ) (x : Query) → query C p q ≡ Some x → keeps_rules (tables C p) x.statement ≡ true
