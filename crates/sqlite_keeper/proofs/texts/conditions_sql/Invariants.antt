use Rattle.std.proofs.Common.{◌≡◌, take}
use Rattle.std.specs.Prelude.{map, string_bytes}
use Rattle.sqlite_keeper.specs.Texts.{condition_sql}
use Rattle.sqlite_keeper.proofs.texts.conditions_sql.Given as goal

abbrev pub invariant-loop-condition : goal.invariant-loop-condition
invariant-loop-condition l = map string_bytes l.parts.items ≡ map condition_sql (take l.condition-index l.conditions)
