use Rattle.std.proofs.Common.{◌≡◌, drop}
use Rattle.config_diff.specs.Sameness.{agree_on_paths}
use Rattle.config_diff.proofs.site.agree_on_paths.Given as goal

abbrev pub invariant-loop-one : goal.invariant-loop-one
invariant-loop-one l = agree_on_paths (drop l.one-index l.owned) l.a l.b ≡ agree_on_paths l.owned l.a l.b
