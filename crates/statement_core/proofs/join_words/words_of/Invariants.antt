use Rattle.std.proofs.Common.{◌≡◌, map, take}
use Rattle.statement_core.specs.Joining.{joined_word}
use Rattle.statement_core.proofs.join_words.words_of.Given as goal

abbrev pub invariant-loop-column : goal.invariant-loop-column
invariant-loop-column l = l.words.items ≡ map joined_word (take l.column-index l.list)
