use Rattle.std.proofs.Common.{◌≡◌, ◌++◌, true, eqb, drop}
use Rattle.statement_core.specs.Canonical.{assignment_tokens}
use Rattle.statement_text.proofs.canonical.put_assignments.Given as goal

abbrev pub invariant-loop-i : goal.invariant-loop-i
invariant-loop-i l = l.out.items ++ assignment_tokens l.columns (eqb l.i 0) (drop l.i l.assignments) ≡ l.fn.out.items ++ assignment_tokens l.columns true l.assignments
