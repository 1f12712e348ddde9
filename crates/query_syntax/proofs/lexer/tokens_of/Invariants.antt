use Rattle.std.proofs.Common.{◌≡◌, drop}
use Rattle.query_syntax.specs.Tokens.{tokens, tokens_from, with_tokens}
use Rattle.query_syntax.proofs.lexer.tokens_of.Given as goal

abbrev pub invariant-loop-at : goal.invariant-loop-at
invariant-loop-at l = with_tokens l.out.items (tokens_from l.left l.at (drop l.at l.text)) ≡ tokens l.text
