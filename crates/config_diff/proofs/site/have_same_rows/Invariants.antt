use Rattle.std.proofs.Common.{◌≡◌, drop}
use Rattle.std.specs.Cmp.Lexicographic.{pointwise}
use Rattle.config_diff.specs.Sameness.{same_first_rows}
use Rattle.config_diff.proofs.site.have_same_rows.Given as goal

abbrev pub invariant-loop-i : goal.invariant-loop-i
invariant-loop-i l = pointwise same_first_rows (drop l.i l.a) (drop l.i l.b) ≡ pointwise same_first_rows l.a l.b
