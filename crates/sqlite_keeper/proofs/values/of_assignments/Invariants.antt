use Rattle.std.proofs.Common.{◌≡◌, take}
use Rattle.sqlite.specs.Values.{bound}
use Rattle.sqlite_keeper.specs.Values.{assignments_values}
use Rattle.sqlite_keeper.proofs.values.of_assignments.Given as goal

abbrev pub invariant-loop-assignment : goal.invariant-loop-assignment
invariant-loop-assignment l = bound l.values.items ≡ assignments_values l.args (take l.assignment-index l.assignments)
