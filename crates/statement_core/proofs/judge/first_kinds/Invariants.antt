use Rattle.std.proofs.Common.{◌≡◌, ◌++◌, drop}
use Rattle.statement_core.specs.Resolving.{parameters}
use Rattle.statement_core.proofs.judge.first_kinds.Given as goal

abbrev pub invariant-loop-i : goal.invariant-loop-i
invariant-loop-i l = l.kinds.items ++ parameters (drop l.i l.met) ≡ parameters l.met
