use Rattle.std.proofs.Common.{◌≡◌}
use Rattle.okws_plan.specs.Configuration.{tables}
use Rattle.text_cases.proofs.calls.call_all.Given as goal

abbrev pub invariant-loop-words : goal.invariant-loop-words
invariant-loop-words l = l.keeper.tables.items ≡ tables l.config 0
