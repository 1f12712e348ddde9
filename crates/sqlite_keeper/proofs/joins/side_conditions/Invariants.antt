use Rattle.std.proofs.Common.{◌≡◌, take}
use Rattle.std.specs.Prelude.{map, string_bytes}
use Rattle.sqlite_keeper.specs.Texts.{side_condition_sql}
use Rattle.sqlite_keeper.proofs.joins.side_conditions.Given as goal

abbrev pub invariant-loop-condition : goal.invariant-loop-condition
invariant-loop-condition l = map string_bytes l.parts.items ≡ map (side_condition_sql l.sides.width l.sides.table l.sides.second) (take l.condition-index l.conditions)
