-- What canonical texts stand for: which tokens are read from them, and which statements.
use Rattle.std.specs.Prelude.{◌≡◌, ℕ, Bool, true, not, ◌&&◌, nat_le, IsTrue, List, [], ◌∷◌, length, Option, Some, None, Ok}
use Rattle.std.specs.List.{list_all, list_any}
use Rattle.okws_base.specs.Names.{is_identifier}
use Rattle.okws_base.specs.Value.{same_bytes}
use Rattle.okws_plan.specs.Rules.{keeps_rules, join_of, read_columns}
use Rattle.okws_plan.specs.declared.statement.Join.{Join}
use Rattle.okws_plan.specs.declared.configuration.Column.{Column}
use Rattle.okws_plan.specs.declared.configuration.Table.{Table}
use Rattle.okws_plan.specs.declared.statement.Operand.{Operand}
use Rattle.okws_plan.specs.declared.statement.Operand.TheVariants as operand
use Rattle.okws_plan.specs.declared.statement.Condition.{Condition}
use Rattle.okws_plan.specs.declared.statement.Assignment.{Assignment}
use Rattle.okws_plan.specs.declared.statement.Action.{Action}
use Rattle.okws_plan.specs.declared.statement.Action.TheVariants as action
use Rattle.okws_plan.specs.declared.statement.Statement.{Statement}
use Rattle.query_syntax.specs.ReadAgain.{is_held}
use Rattle.statement_core.specs.Canonical.{canonical}
use Rattle.statement_core.specs.Compiled.{compiled}

-- No two items have one name.
abbrev pub names_differ : {A : Type 0} → (A → List ℕ) → List A → Bool
names_differ name [] = true
names_differ name (x ∷ more) = not (list_any (λ other. same_bytes (name x) (name other)) more) && names_differ name more

-- A table is named by an identifier, and has 1 to 256 columns, each named by an identifier of its own.
abbrev pub is_declarable : Table → Bool
is_declarable t =
    is_identifier t.name && (nat_le 1 (length t.columns) && (nat_le (length t.columns) 256
    && (list_all (λ (c : Column). is_identifier c.name) t.columns && names_differ (λ (c : Column). c.name) t.columns)))

-- The tables of a proxy are at most 256, each of a name of its own.
abbrev pub are_declarable : List Table → Bool
are_declarable tables = nat_le (length tables) 256 && (list_all is_declarable tables && names_differ (λ (t : Table). t.name) tables)

-- Joined rows have at most 256 columns.
abbrev pub are_numbered : List Table → ℕ → Option Join → Bool
are_numbered tables t None = true
are_numbered tables t (Some join) = nat_le (length (read_columns tables t (Some join))) 256

-- A literal is a value that the program can hold.
abbrev pub holds_literal : Operand → Bool
holds_literal (operand.Parameter n) = true
holds_literal (operand.Literal v) = is_held v

-- The literals of conditions are values that the program can hold.
abbrev pub conditions_hold : List Condition → Bool
conditions_hold conditions = list_all (λ (c : Condition). holds_literal c.operand) conditions

-- The literals of an action are values that the program can hold.
abbrev pub holds_literals : Action → Bool
holds_literals (action.Select s) = conditions_hold s.conditions
holds_literals (action.Insert values) = list_all holds_literal values
holds_literals (action.Update assignments conditions) = list_all (λ (a : Assignment). holds_literal a.operand) assignments && conditions_hold conditions
holds_literals (action.Delete conditions) = conditions_hold conditions

-- The text compiles to the statement, if a configuration can declare the tables, the joined rows that a join reads have no more columns than a byte numbers, the program can hold the statement's literals, and the statement keeps the rules of the query language for the tables.
abbrev pub CompilesTo : List Table → Statement → List ℕ → Type 0
CompilesTo tables st text = IsTrue (are_declarable tables) → IsTrue (are_numbered tables st.table (join_of st.action)) → IsTrue (holds_literals st.action) → IsTrue (keeps_rules tables st) → compiled tables text ≡ Ok st

-- Each statement that keeps the rules is compiled from its canonical text.
abbrev pub StatementsCompileAgain : Type 0
StatementsCompileAgain = (tables : List Table) (st : Statement) → CompilesTo tables st (canonical tables st)

-- Each statement that a text stands for keeps the rules for its tables.
abbrev pub CompiledKeepsRules : Type 0
CompiledKeepsRules = (tables : List Table) (text : List ℕ) (st : Statement) → compiled tables text ≡ Ok st → IsTrue (keeps_rules tables st)
