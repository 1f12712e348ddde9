use Rattle.std.proofs.Common.{◌≡◌, ◌++◌, true, drop}
use Rattle.query_syntax.specs.Spelling.{joined}
use Rattle.query_syntax.proofs.spelling.spelled.Given as goal

abbrev pub invariant-loop-i : goal.invariant-loop-i
invariant-loop-i l = l.out.items ++ joined l.is_tight (drop l.i l.tokens) ≡ joined true l.tokens
