use Rattle.std.proofs.Common.{◌≡◌, drop}
use Rattle.config_diff.specs.Sameness.{owned_in}
use Rattle.config_diff.proofs.site.owned_in.Given as goal

abbrev pub invariant-loop-owned : goal.invariant-loop-owned
invariant-loop-owned l = owned_in (drop l.owned-index l.paths) l.path ≡ owned_in l.paths l.path
