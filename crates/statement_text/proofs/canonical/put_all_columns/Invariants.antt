use Rattle.std.proofs.Common.{◌≡◌, ◌++◌, true, eqb, drop}
use Rattle.statement_core.specs.Canonical.{all_column_tokens}
use Rattle.statement_text.proofs.canonical.put_all_columns.Given as goal

abbrev pub invariant-loop-i : goal.invariant-loop-i
invariant-loop-i l = l.out.items ++ all_column_tokens (eqb l.i 0) (drop l.i l.columns) ≡ l.fn.out.items ++ all_column_tokens true l.columns
