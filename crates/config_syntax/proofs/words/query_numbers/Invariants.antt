use Rattle.std.proofs.Common.{◌≡◌, take, drop, map}
use Rattle.std.specs.List.{list_all}
use Rattle.okws_base.specs.declared.limit.TheConstants.{GREATEST_QUERY}
use Rattle.plain_text.specs.Decimals.{decimal_value}
use Rattle.config_syntax.specs.Words.{is_number_to}
use Rattle.config_syntax.proofs.words.query_numbers.Given as goal

abbrev pub invariant-loop-word : goal.invariant-loop-word
invariant-loop-word l = record {
  made : l.out.items ≡ map decimal_value (take l.word-index l.words);
  all : list_all (is_number_to GREATEST_QUERY) (drop l.word-index l.words) ≡ list_all (is_number_to GREATEST_QUERY) l.words;
}
