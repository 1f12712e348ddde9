use Rattle.std.proofs.Common.{◌≡◌, ◌<◌, drop}
use Rattle.std.specs.Prelude.{IfSome}
use Rattle.query_syntax.specs.Tokens.{hexadecimal, hexadecimal_from, with_content}
use Rattle.query_syntax.proofs.lexer.hexadecimal_of.Given as goal

abbrev pub invariant-loop-i : goal.invariant-loop-i
invariant-loop-i l = record {
  so_far : with_content l.content.items l.i (hexadecimal_from l.first (drop l.i l.bytes)) ≡ hexadecimal l.bytes;
  below : IfSome l.first (λ high. high < 16);
}
