use Rattle.std.proofs.Common.{◌≡◌, drop}
use Rattle.std.specs.Cmp.Lexicographic.{pointwise}
use Rattle.config_diff.proofs.same.all_same.Given as goal

abbrev pub invariant-loop-i : goal.invariant-loop-i
invariant-loop-i g l = pointwise g.T.Same.same (drop l.i l.a) (drop l.i l.b) ≡ pointwise g.T.Same.same l.a l.b
