-- A small site, on which the column is tried.
use Rattle.std.specs.Prelude.{true, List, [], ◌∷◌, None, codes}
use Rattle.okws_base.specs.declared.value.Kind.TheVariants as kind
use Rattle.okws_plan.specs.declared.configuration.Config.{Config}
use Rattle.okws_plan.specs.declared.configuration.Table.{Table}
use Rattle.okws_plan.specs.declared.configuration.Query.{Query}
use Rattle.okws_plan.specs.declared.statement.Action.TheVariants.{Select, Insert, Delete}
use Rattle.okws_plan.specs.declared.statement.Comparison.TheVariants.{Equal}
use Rattle.okws_plan.specs.declared.statement.Operand.TheVariants.{Parameter}

-- One table of one column of bytes, which is the KEY, without rows.
abbrev pub table : Table
table = record { name = codes "t"; columns = record { name = codes "b"; kind = kind.Bytes; key = true } ∷ []; first = [] }

-- Query 1 inserts a row, query 2 lists all rows, and query 4 deletes a row.
abbrev pub queries : List Query
queries =
    record { number = 1; statement = record { table = 0; parameters = kind.Bytes ∷ []; action = Insert (Parameter 1 ∷ []) } }
    ∷ record { number = 2; statement = record { table = 0; parameters = []; action = Select (record { join = None; columns = 0 ∷ []; conditions = []; order = None; limit = None }) } }
    ∷ record { number = 4; statement = record { table = 0; parameters = kind.Bytes ∷ []; action = Delete (record { column = 0; comparison = Equal; operand = Parameter 1 } ∷ []) } }
    ∷ []

-- Two services, guest and other, at one proxy; guest may call all queries, and other the second.
abbrev pub site : Config
site = record {
  proxies = record { name = codes "main"; tables = table ∷ []; queries = queries } ∷ [];
  services = record { name = codes "guest"; words = [] } ∷ record { name = codes "other"; words = [] } ∷ [];
  templates = [];
  retry = 3;
  paths = [];
  grants = record { service = 0; proxy = 0; query = 1 } ∷ record { service = 0; proxy = 0; query = 2 } ∷ record { service = 0; proxy = 0; query = 4 } ∷ record { service = 1; proxy = 0; query = 2 } ∷ [];
  readables = [];
  loggers = [];
}
