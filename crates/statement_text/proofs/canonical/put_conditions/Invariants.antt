use Rattle.std.proofs.Common.{◌≡◌, ◌++◌, true, eqb, drop}
use Rattle.statement_core.specs.Canonical.{condition_tokens}
use Rattle.statement_text.proofs.canonical.put_conditions.Given as goal

abbrev pub invariant-loop-i : goal.invariant-loop-i
invariant-loop-i l = l.out.items ++ condition_tokens l.columns (eqb l.i 0) (drop l.i l.conditions) ≡ l.fn.out.items ++ condition_tokens l.columns true l.conditions
