use Rattle.std.proofs.Common.{◌≡◌}
use Rattle.okws_plan.specs.Configuration.{tables}
use Rattle.keeper_tests.proofs.database.path_answers_alike.Given as goal

abbrev pub invariant-loop-turn : goal.invariant-loop-turn
invariant-loop-turn g l = l.other.tables.items ≡ tables l.config 0
