use Rattle.std.proofs.Common.{◌≡◌, ◌++◌, true, eqb, drop}
use Rattle.statement_core.specs.Canonical.{side_tokens, side_list_tokens}
use Rattle.statement_text.proofs.join_tokens.put_side_list.Given as goal

abbrev pub invariant-loop-i : goal.invariant-loop-i
invariant-loop-i l =
    l.out.items ++ side_list_tokens (side_tokens l.sides.tables.now l.sides.first l.sides.second) (eqb l.i 0) (drop l.i l.list) ≡
    l.fn.out.items ++ side_list_tokens (side_tokens l.sides.tables.now l.sides.first l.sides.second) true l.list
