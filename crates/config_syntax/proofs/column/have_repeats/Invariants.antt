use Rattle.std.proofs.Common.{◌≡◌, drop}
use Rattle.config_syntax.specs.Columns.{repeats}
use Rattle.config_syntax.proofs.column.have_repeats.Given as goal

abbrev pub invariant-loop-i : goal.invariant-loop-i
invariant-loop-i l = repeats (drop l.i l.columns) ≡ repeats l.columns
