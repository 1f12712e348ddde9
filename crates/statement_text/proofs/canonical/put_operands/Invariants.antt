use Rattle.std.proofs.Common.{◌≡◌, ◌++◌, true, eqb, drop}
use Rattle.statement_core.specs.Canonical.{operand_tokens}
use Rattle.statement_text.proofs.canonical.put_operands.Given as goal

abbrev pub invariant-loop-i : goal.invariant-loop-i
invariant-loop-i l = l.out.items ++ operand_tokens (eqb l.i 0) (drop l.i l.operands) ≡ l.fn.out.items ++ operand_tokens true l.operands
