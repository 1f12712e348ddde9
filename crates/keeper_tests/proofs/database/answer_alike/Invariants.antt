use Rattle.std.proofs.Common.{◌≡◌}
use Rattle.okws_plan.specs.Configuration.{tables}
use Rattle.keeper_tests.proofs.database.answer_alike.Given as goal

abbrev pub invariant-loop : goal.invariant-loop
invariant-loop g l = (g.K.Keeper.tables l.one ≡ tables l.config 0) × (l.other.tables.items ≡ tables l.config 0)
