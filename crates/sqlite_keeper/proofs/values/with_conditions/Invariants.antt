use Rattle.std.proofs.Common.{◌≡◌, ◌++◌, take}
use Rattle.sqlite.specs.Values.{bound}
use Rattle.sqlite_keeper.specs.Values.{conditions_values}
use Rattle.sqlite_keeper.proofs.values.with_conditions.Given as goal

abbrev pub invariant-loop-condition : goal.invariant-loop-condition
invariant-loop-condition l = bound l.values.items ≡ bound l.initial.values.items ++ conditions_values l.args (take l.condition-index l.conditions)
