-- A small table and a statement over it, on which stores in files are tried.
use Rattle.std.specs.Prelude.{◌≡◌, List, [], ◌∷◌, true, false}
use Rattle.okws_base.specs.declared.value.Kind.TheVariants as kind
use Rattle.okws_plan.specs.declared.configuration.Column.{Column}
use Rattle.okws_plan.specs.declared.configuration.Table.{Table}
use Rattle.okws_plan.specs.declared.statement.Statement.{Statement}
use Rattle.okws_plan.specs.declared.statement.Action.TheVariants.{Insert}
use Rattle.okws_plan.specs.declared.statement.Operand.TheVariants.{Parameter}

-- Two columns of numbers, id, which is the KEY, and n.
abbrev pub columns : List Column
columns =
    record { name = 105 ∷ 100 ∷ []; kind = kind.Int; key = true }
    ∷ record { name = 110 ∷ []; kind = kind.Int; key = false }
    ∷ []

-- One table of these columns, without rows.
abbrev pub tables : List Table
tables = record { name = 116 ∷ []; columns = columns; first = [] } ∷ []

-- INSERT: n and id are the parameters 1 and 2.
abbrev pub IsInsertion : Statement → Type 0
IsInsertion st = st ≡ record { table = 0; parameters = kind.Int ∷ kind.Int ∷ []; action = Insert (Parameter 2 ∷ Parameter 1 ∷ []) }
