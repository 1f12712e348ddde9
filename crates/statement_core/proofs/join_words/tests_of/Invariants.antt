use Rattle.std.proofs.Common.{◌≡◌, map, take}
use Rattle.statement_core.specs.Joining.{joined_test}
use Rattle.statement_core.proofs.join_words.tests_of.Given as goal

abbrev pub invariant-loop-test : goal.invariant-loop-test
invariant-loop-test l = l.found.items ≡ map joined_test (take l.test-index l.tests)
