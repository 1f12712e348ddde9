use Rattle.std.proofs.Common.{◌≡◌, take}
use Rattle.statement_core.specs.Resolving.{tests_judged}
use Rattle.statement_core.proofs.judge.Judge.tests.Given as goal

abbrev pub invariant-loop-test : goal.invariant-loop-test
invariant-loop-test l = l.self ≡ tests_judged l.scope l.fn.self (take l.test-index l.tests)
