use Rattle.std.proofs.Common.{◌≡◌, take}
use Rattle.statement_core.specs.Resolving.{words_judged}
use Rattle.statement_core.proofs.judge.Judge.words.Given as goal

abbrev pub invariant-loop-word : goal.invariant-loop-word
invariant-loop-word l = l.self ≡ words_judged l.scope l.fn.self (take l.word-index l.words)
