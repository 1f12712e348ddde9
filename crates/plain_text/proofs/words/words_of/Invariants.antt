use Rattle.std.proofs.Common.{◌≡◌, ◌++◌, length}
use Rattle.plain_text.specs.Words.{words}
use Rattle.plain_text.proofs.words.words_of.Given as goal

abbrev pub invariant-loop-word : goal.invariant-loop-word
invariant-loop-word l = l.out.items ++ words l.rest ≡ words l.fn.bytes

abbrev pub decreases-loop-word : goal.decreases-loop-word
decreases-loop-word l = length l.rest
