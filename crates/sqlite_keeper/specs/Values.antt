-- Values on their way to the database and back.
use Rattle.std.specs.Prelude.{◌≡◌, ℕ, ℤ, ◌<◌, List, ◌++◌, map, length, slice_get, slice_index_or, Option, Some, None, IsUtf8}
use Rattle.sqlite.specs.declared.types.Value.{Value as SqlValue}
use Rattle.sqlite.specs.declared.types.Value.TheVariants as sql
use Rattle.sqlite.specs.Order.{column}
use Rattle.okws_base.specs.declared.value.Value.{Value}
use Rattle.okws_base.specs.declared.value.Value.TheVariants.{Int, Text, Bytes}
use Rattle.okws_base.specs.declared.value.Kind.{Kind}
use Rattle.okws_base.specs.declared.value.Kind.TheVariants as kind
use Rattle.okws_plan.specs.declared.configuration.Column.{Column}
use Rattle.okws_plan.specs.declared.statement.Operand.{Operand}
use Rattle.okws_plan.specs.declared.statement.Condition.{Condition}
use Rattle.okws_plan.specs.declared.statement.Assignment.{Assignment}
use Rattle.okws_plan.specs.declared.statement.Action.{Action}
use Rattle.okws_plan.specs.declared.statement.Action.TheVariants.{Select, Insert, Update, Delete}
use Rattle.okws_plan.specs.Meaning.{operand}

-- A value as the database has it.
abbrev pub stored : Value → SqlValue
stored (Int n) = sql.Int n
stored (Text t) = sql.Text t
stored (Bytes b) = sql.Blob b

-- The values that conditions compare with.
abbrev pub conditions_values : List Value → List Condition → List SqlValue
conditions_values args conditions = map (λ (c : Condition). stored (operand args c.operand)) conditions

-- The values that assignments set.
abbrev pub assignments_values : List Value → List Assignment → List SqlValue
assignments_values args assignments = map (λ (a : Assignment). stored (operand args a.operand)) assignments

-- The values of a new row.
abbrev pub operands_values : List Value → List Operand → List SqlValue
operands_values args operands = map (λ (o : Operand). stored (operand args o)) operands

-- The values of an action, in the order of their places in its SQL.
abbrev pub values_of : List Value → Action → List SqlValue
values_of args (Select s) = conditions_values args s.conditions
values_of args (Insert values) = operands_values args values
values_of args (Update assignments conditions) = assignments_values args assignments ++ conditions_values args conditions
values_of args (Delete conditions) = conditions_values args conditions

-- The kind of a column that may not be there.
abbrev pub kind_in : Option Column → Kind
kind_in None = kind.Int
kind_in (Some c) = c.kind

-- The kinds of the listed columns.
abbrev pub kinds_of : List Column → List ℕ → List Kind
kinds_of columns listed = map (λ (c : ℕ). kind_in (slice_get columns c)) listed

-- The database's value is one of this kind.
abbrev pub IsOfKind : Kind → SqlValue → Type 0
IsOfKind kind.Int v = (n : ℤ) × (v ≡ sql.Int n)
IsOfKind kind.Text v = (t : List ℕ) × (v ≡ sql.Text t) × IsUtf8 t
IsOfKind kind.Bytes v = (b : List ℕ) × (v ≡ sql.Blob b)

-- The row has one value of each kind.
abbrev pub AreOfKinds : List Kind → List SqlValue → Type 0
AreOfKinds kinds row = (length row ≡ length kinds) × ((i : ℕ) → i < length kinds → IsOfKind (slice_index_or kinds i kind.Int) (column row i))
