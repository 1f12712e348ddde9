use Rattle.std.proofs.Common.{◌≡◌, map, take}
use Rattle.statement_core.specs.Resolving.{condition_of}
use Rattle.statement_core.proofs.action.conditions.Given as goal

abbrev pub invariant-loop-test : goal.invariant-loop-test
invariant-loop-test l = l.out.items ≡ map (condition_of l.scope) (take l.test-index l.tests)
