use Rattle.std.proofs.Common.{◌≡◌}
use Rattle.okws_plan.specs.Configuration.{tables}
use Rattle.keeper_tests.proofs.calls.long_values_are_kept.Given as goal

abbrev pub invariant-loop : goal.invariant-loop
invariant-loop g l = l.keeper.tables.items ≡ tables l.config 0
