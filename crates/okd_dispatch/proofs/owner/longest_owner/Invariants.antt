use Rattle.std.proofs.Common.{◌≡◌, take}
use Rattle.std.specs.Prelude.{option_copied}
use Rattle.okws_plan.specs.Configuration.{best_owner}
use Rattle.okd_dispatch.proofs.owner.longest_owner.Given as goal

abbrev pub invariant-loop-owned : goal.invariant-loop-owned
invariant-loop-owned l = option_copied l.best ≡ best_owner (take l.owned-index l.paths) l.path
