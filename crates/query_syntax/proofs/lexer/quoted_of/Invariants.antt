use Rattle.std.proofs.Common.{◌≡◌, drop}
use Rattle.query_syntax.specs.Tokens.{quoted, quoted_from, with_content}
use Rattle.query_syntax.proofs.lexer.quoted_of.Given as goal

abbrev pub invariant-loop-i : goal.invariant-loop-i
invariant-loop-i l = with_content l.content.items l.i (quoted_from l.is_odd (drop l.i l.bytes)) ≡ quoted l.bytes
