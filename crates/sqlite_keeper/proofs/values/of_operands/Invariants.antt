use Rattle.std.proofs.Common.{◌≡◌, take}
use Rattle.sqlite.specs.Values.{bound}
use Rattle.sqlite_keeper.specs.Values.{operands_values}
use Rattle.sqlite_keeper.proofs.values.of_operands.Given as goal

abbrev pub invariant-loop-given : goal.invariant-loop-given
invariant-loop-given l = bound l.values.items ≡ operands_values l.args (take l.given-index l.operands)
