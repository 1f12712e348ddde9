use Rattle.std.proofs.Common.{◌≡◌, map, take}
use Rattle.statement_core.specs.Resolving.{number}
use Rattle.statement_core.proofs.action.column_bytes.Given as goal

abbrev pub invariant-loop-word : goal.invariant-loop-word
invariant-loop-word l = l.out.items ≡ map (number l.scope) (take l.word-index l.words)
