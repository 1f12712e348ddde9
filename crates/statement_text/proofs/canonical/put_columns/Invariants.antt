use Rattle.std.proofs.Common.{◌≡◌, ◌++◌, true, eqb, drop}
use Rattle.statement_core.specs.Canonical.{column_tokens}
use Rattle.statement_text.proofs.canonical.put_columns.Given as goal

abbrev pub invariant-loop-i : goal.invariant-loop-i
invariant-loop-i l = l.out.items ++ column_tokens l.columns (eqb l.i 0) (drop l.i l.list) ≡ l.fn.out.items ++ column_tokens l.columns true l.list
