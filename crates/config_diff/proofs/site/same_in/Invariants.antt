use Rattle.std.proofs.Common.{◌≡◌, drop}
use Rattle.std.specs.Cmp.Lexicographic.{pointwise}
use Rattle.config_diff.specs.Sameness.{same_part}
use Rattle.config_diff.proofs.site.same_in.Given as goal

abbrev pub invariant-loop-i : goal.invariant-loop-i
invariant-loop-i l = pointwise (same_part l.part) (drop l.i l.a) (drop l.i l.b) ≡ pointwise (same_part l.part) l.a l.b
