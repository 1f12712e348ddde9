use Rattle.std.proofs.Common.{◌≡◌, take}
use Rattle.statement_core.specs.Joining.{test_qualifiers_judged}
use Rattle.statement_core.proofs.judge.Judge.test_qualifiers.Given as goal

abbrev pub invariant-loop-test : goal.invariant-loop-test
invariant-loop-test l = l.self ≡ test_qualifiers_judged l.joined l.fn.self (take l.test-index l.tests)
