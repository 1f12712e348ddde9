use Rattle.std.proofs.Common.{◌≡◌, take}
use Rattle.std.specs.Prelude.{map, string_bytes}
use Rattle.sqlite_keeper.specs.Texts.{side_name}
use Rattle.sqlite_keeper.proofs.joins.side_names.Given as goal

abbrev pub invariant-loop-column : goal.invariant-loop-column
invariant-loop-column l = map string_bytes l.parts.items ≡ map (side_name l.sides.width l.sides.table l.sides.second) (take l.column-index l.columns)
