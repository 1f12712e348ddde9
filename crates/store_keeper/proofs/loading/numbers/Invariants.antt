use Rattle.std.proofs.Common.{◌≡◌, ◌++◌, ◌-◌}
use Rattle.okws_plan.specs.Configuration.{numbered_from}
use Rattle.store_keeper.proofs.loading.numbers.Given as goal

abbrev pub invariant-loop-at : goal.invariant-loop-at
invariant-loop-at l = l.numbers.items ++ numbered_from l.at (l.count - l.at) ≡ numbered_from 0 l.count
