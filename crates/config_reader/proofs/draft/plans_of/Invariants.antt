use Rattle.std.proofs.Common.{◌≡◌}
use Rattle.config_reader.proofs.draft.plans_of.Given as goal

abbrev pub invariant-loop-draft : goal.invariant-loop-draft
invariant-loop-draft l = l.out.items ≡ l.yielded
