use Rattle.std.proofs.Common.{◌≡◌, ◌++◌, drop}
use Rattle.query_syntax.specs.Spelling.{doubled}
use Rattle.query_syntax.proofs.spelling.put_doubled.Given as goal

abbrev pub invariant-loop-i : goal.invariant-loop-i
invariant-loop-i l = l.out.items ++ doubled (drop l.i l.text) ≡ l.fn.out.items ++ doubled l.text
