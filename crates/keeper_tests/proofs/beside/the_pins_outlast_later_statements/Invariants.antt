use Rattle.std.proofs.Common.{◌≡◌}
use Rattle.okws_plan.specs.Configuration.{tables}
use Rattle.keeper_tests.proofs.beside.the_pins_outlast_later_statements.Given as goal

abbrev pub invariant-loop : goal.invariant-loop
invariant-loop g l = l.one.tables.items ≡ tables l.config 0
