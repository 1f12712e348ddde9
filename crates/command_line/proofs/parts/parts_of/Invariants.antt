use Rattle.std.proofs.Common.{◌≡◌, map, length}
use Rattle.std.specs.Prelude.{string_bytes}
use Rattle.command_line.specs.Parts.{parts_of}
use Rattle.command_line.specs.Meant.{parts_meant, joined}
use Rattle.command_line.proofs.parts.parts_of.Given as goal

abbrev pub invariant-loop-word : goal.invariant-loop-word
invariant-loop-word l = joined (parts_meant l.parts) (parts_of (map string_bytes l.rest)) ≡ parts_of (map string_bytes l.words)

abbrev pub decreases-loop-word : goal.decreases-loop-word
decreases-loop-word l = length l.rest
