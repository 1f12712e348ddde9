use Rattle.std.proofs.Common.{◌≡◌, drop}
use Rattle.statement_core.specs.Resolving.{has_gap}
use Rattle.statement_core.proofs.judge.is_gapped.Given as goal

abbrev pub invariant-loop-i : goal.invariant-loop-i
invariant-loop-i l = has_gap (drop l.i l.met) ≡ has_gap l.met
