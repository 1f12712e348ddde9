use Rattle.std.proofs.Common.{◌≡◌, ◌++◌, take}
use Rattle.plain_text.specs.Hexadecimal.{hex}
use Rattle.plain_text.proofs.hexadecimal.push_hex.Given as goal

abbrev pub invariant-loop-byte : goal.invariant-loop-byte
invariant-loop-byte l = l.text.items ≡ l.initial.text.items ++ hex (take l.byte-index l.bytes)
