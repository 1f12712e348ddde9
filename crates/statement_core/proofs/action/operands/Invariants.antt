use Rattle.std.proofs.Common.{◌≡◌, map, take}
use Rattle.statement_core.specs.Resolving.{operand_of}
use Rattle.query_syntax.specs.declared.syntax.Given.{Given}
use Rattle.statement_core.proofs.action.operands.Given as goal

abbrev pub invariant-loop-given : goal.invariant-loop-given
invariant-loop-given l = l.out.items ≡ map (λ (g : Given). operand_of g.value) (take l.given-index l.values)
