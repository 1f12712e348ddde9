use Rattle.std.proofs.Common.{◌≡◌, take}
use Rattle.std.specs.Prelude.{map}
use Rattle.sqlite.specs.Values.{bound}
use Rattle.sqlite_keeper.specs.Values.{stored}
use Rattle.sqlite_keeper.proofs.values.row_values.Given as goal

abbrev pub invariant-loop-value : goal.invariant-loop-value
invariant-loop-value l = bound l.values.items ≡ map stored (take l.value-index l.row)
