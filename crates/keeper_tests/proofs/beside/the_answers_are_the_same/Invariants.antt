use Rattle.std.proofs.Common.{◌≡◌}
use Rattle.okws_plan.specs.Configuration.{tables}
use Rattle.keeper_tests.proofs.beside.the_answers_are_the_same.Given as goal

abbrev pub invariant-loop : goal.invariant-loop
invariant-loop g l = l.one.tables.items ≡ tables l.config 0
