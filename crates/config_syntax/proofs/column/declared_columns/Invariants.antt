use Rattle.std.proofs.Common.{◌≡◌, take, map}
use Rattle.config_syntax.specs.Columns.{column_of}
use Rattle.config_syntax.proofs.column.declared_columns.Given as goal

abbrev pub invariant-loop-column : goal.invariant-loop-column
invariant-loop-column l = l.out.items ≡ map column_of (take l.column-index l.columns)
