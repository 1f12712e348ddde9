-- When parts of two configurations are the same.
use Rattle.std.specs.Prelude.{ℕ, Bool, true, false, not, ◌&&◌, ◌==◌, nat_eq, List, Option, Some, None, find}
use Rattle.std.specs.List.{list_all}
use Rattle.std.specs.Cmp.Lexicographic.{pointwise}
use Rattle.okws_base.specs.Value.{same_bytes, same_kind, value_eq}
use Rattle.okws_plan.specs.declared.configuration.Column.{Column}
use Rattle.okws_plan.specs.declared.configuration.Owned.{Owned}
use Rattle.okws_plan.specs.declared.configuration.ProxyPlan.{ProxyPlan}
use Rattle.okws_plan.specs.declared.configuration.Query.{Query}
use Rattle.okws_plan.specs.declared.configuration.ServicePlan.{ServicePlan}
use Rattle.okws_plan.specs.declared.configuration.Table.{Table}
use Rattle.okws_plan.specs.declared.statement.Action.{Action}
use Rattle.okws_plan.specs.declared.statement.Action.TheVariants.{Select, Insert, Update, Delete}
use Rattle.okws_plan.specs.declared.statement.Assignment.{Assignment}
use Rattle.okws_plan.specs.declared.statement.Comparison.{Comparison}
use Rattle.okws_plan.specs.declared.statement.Comparison.TheVariants as comparison
use Rattle.okws_plan.specs.declared.statement.Condition.{Condition}
use Rattle.okws_plan.specs.declared.statement.Join.{Join}
use Rattle.okws_plan.specs.declared.statement.Operand.{Operand}
use Rattle.okws_plan.specs.declared.statement.Operand.TheVariants.{Parameter, Literal}
use Rattle.okws_plan.specs.declared.statement.Selection.{Selection}
use Rattle.okws_plan.specs.declared.statement.Statement.{Statement}
use Rattle.config_diff.specs.declared.site.ProxyPart.{ProxyPart}
use Rattle.config_diff.specs.declared.site.ProxyPart.TheVariants.{Name, Tables, FirstRows, Queries}

-- Two flags are the same.
abbrev pub same_flag : Bool → Bool → Bool
same_flag true b = b
same_flag false b = not b

-- Two things that may not be there are the same.
abbrev pub same_option : {A : Type 0} → (A → A → Bool) → Option A → Option A → Bool
same_option same None None = true
same_option same (Some a) (Some b) = same a b
same_option same _ _ = false

-- The number of a comparison, each its own.
abbrev pub comparison_number : Comparison → ℕ
comparison_number comparison.Equal = 0
comparison_number comparison.Differs = 1
comparison_number comparison.Below = 2
comparison_number comparison.AtMost = 3
comparison_number comparison.Above = 4
comparison_number comparison.AtLeast = 5

-- Two operands are the same.
abbrev pub same_operand : Operand → Operand → Bool
same_operand (Parameter n) (Parameter m) = n == m
same_operand (Literal v) (Literal w) = value_eq v w
same_operand _ _ = false

-- Two conditions are the same.
abbrev pub same_condition : Condition → Condition → Bool
same_condition a b = (a.column == b.column) && ((comparison_number a.comparison == comparison_number b.comparison) && same_operand a.operand b.operand)

-- Two assignments are the same.
abbrev pub same_assignment : Assignment → Assignment → Bool
same_assignment a b = (a.column == b.column) && same_operand a.operand b.operand

-- Two joins are the same.
abbrev pub same_join : Join → Join → Bool
same_join a b = (a.table == b.table) && ((a.left == b.left) && (a.right == b.right))

-- Two SELECTs are the same but for their tables.
abbrev pub same_selection : Selection → Selection → Bool
same_selection a b =
    same_option same_join a.join b.join && (same_bytes a.columns b.columns
    && (pointwise same_condition a.conditions b.conditions && (same_option nat_eq a.order b.order && same_option nat_eq a.limit b.limit)))

-- Two actions are the same.
abbrev pub same_action : Action → Action → Bool
same_action (Select a) (Select b) = same_selection a b
same_action (Insert values) (Insert others) = pointwise same_operand values others
same_action (Update assignments conditions) (Update others tests) = pointwise same_assignment assignments others && pointwise same_condition conditions tests
same_action (Delete conditions) (Delete tests) = pointwise same_condition conditions tests
same_action _ _ = false

-- Two statements are the same.
abbrev pub same_statement : Statement → Statement → Bool
same_statement a b = (a.table == b.table) && (pointwise same_kind a.parameters b.parameters && same_action a.action b.action)

-- Two queries have one number and the same statement.
abbrev pub same_query : Query → Query → Bool
same_query a b = (a.number == b.number) && same_statement a.statement b.statement

-- The query with this number, if there is one.
abbrev pub query_in : List Query → ℕ → Option Query
query_in queries q = find (λ (x : Query). x.number == q) queries

-- Two lists have the same queries under the numbers of these.
abbrev pub agree_on_queries : List Query → List Query → List Query → Bool
agree_on_queries numbered xs ys = list_all (λ (x : Query). same_option same_query (query_in xs x.number) (query_in ys x.number)) numbered

-- Two lists have the same query under each number, in whatever order they stand.
abbrev pub same_queries : List Query → List Query → Bool
same_queries xs ys = agree_on_queries xs xs ys && agree_on_queries ys xs ys

-- Two services have one name and the same words.
abbrev pub same_service : ServicePlan → ServicePlan → Bool
same_service a b = same_bytes a.name b.name && pointwise same_bytes a.words b.words

-- Two columns have one name and one type, and are both KEY or neither.
abbrev pub same_column : Column → Column → Bool
same_column a b = same_bytes a.name b.name && (same_kind a.kind b.kind && same_flag a.key b.key)

-- Two tables have one name and the same columns.
abbrev pub same_shape : Table → Table → Bool
same_shape t u = same_bytes t.name u.name && pointwise same_column t.columns u.columns

-- Two tables have the same first rows.
abbrev pub same_first_rows : Table → Table → Bool
same_first_rows t u = pointwise (pointwise value_eq) t.first u.first

-- A part of two proxies is the same.
abbrev pub same_part : ProxyPart → ProxyPlan → ProxyPlan → Bool
same_part Name a b = same_bytes a.name b.name
same_part Tables a b = pointwise same_shape a.tables b.tables
same_part FirstRows a b = pointwise same_first_rows a.tables b.tables
same_part Queries a b = same_queries a.queries b.queries

-- Two paths are the same, and of one service.
abbrev pub same_owned : Owned → Owned → Bool
same_owned a b = same_bytes a.path b.path && (a.service == b.service)

-- The owner of exactly this path, if there is one.
abbrev pub owned_in : List Owned → List ℕ → Option Owned
owned_in paths path = find (λ (o : Owned). same_bytes o.path path) paths

-- Two lists give these paths the same owners.
abbrev pub agree_on_paths : List Owned → List Owned → List Owned → Bool
agree_on_paths owned xs ys = list_all (λ (o : Owned). same_option same_owned (owned_in xs o.path) (owned_in ys o.path)) owned

-- Two lists have the same paths with the same owners, in whatever order they stand.
abbrev pub same_paths : List Owned → List Owned → Bool
same_paths xs ys = agree_on_paths xs xs ys && agree_on_paths ys xs ys
