use Rattle.std.proofs.Common.{◌≡◌, drop}
use Rattle.statement_core.specs.Resolving.{are_columns}
use Rattle.statement_core.proofs.judge.are_in_order.Given as goal

abbrev pub invariant-loop-i : goal.invariant-loop-i
invariant-loop-i l = are_columns (drop l.i l.columns) (drop l.i l.words) ≡ are_columns l.columns l.words
