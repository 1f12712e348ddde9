use Rattle.std.proofs.Common.{◌≡◌, take}
use Rattle.std.specs.Prelude.{map, string_bytes}
use Rattle.sqlite_keeper.specs.Texts.{column_name}
use Rattle.sqlite_keeper.proofs.texts.listed_sql.Given as goal

abbrev pub invariant-loop-column : goal.invariant-loop-column
invariant-loop-column l = map string_bytes l.parts.items ≡ map column_name (take l.column-index l.columns)
