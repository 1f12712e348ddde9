use Rattle.std.proofs.Common.{◌∙◌, sym}
use Rattle.plain_text.proofs.FirstWord.{no_word, first_word}
use Rattle.plain_text.proofs.words.first_word.Goals as goal

pub returns-then-is_empty-clause-words : goal.returns-then-is_empty-clause-words
returns-then-is_empty-clause-words c = no_word c.args.bytes.now c.from_first_word-bytes.result.now c.from_first_word-bytes.ensures (sym c.is_empty.ensures ∙ c.if-is_empty.true)

pub returns-clause-words : goal.returns-clause-words
returns-clause-words c = first_word c.args.bytes.now c.from_first_word-bytes.result.now c.word_len-len.result c.from_first_word-bytes.ensures c.word_len-len.ensures.is (sym c.is_empty.ensures ∙ c.if-is_empty.false)
