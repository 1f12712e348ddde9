use Rattle.std.proofs.Common.{◌≡◌}
use Rattle.okws_plan.specs.Configuration.{tables}
use Rattle.keeper_tests.proofs.calls.a_write_copies_only_what_is_pinned.Given as goal

abbrev pub invariant-loop-id : goal.invariant-loop-id
invariant-loop-id g l = l.keeper.tables.items ≡ tables l.config 0
