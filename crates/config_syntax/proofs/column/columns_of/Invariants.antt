use Rattle.std.proofs.Common.{◌≡◌, ◌++◌, length, List}
use Rattle.std.specs.Prelude.{option_map}
use Rattle.plain_text.specs.Words.{words}
use Rattle.config_syntax.specs.Declarations.{columns_from, AtName, ColumnWords}
use Rattle.config_syntax.proofs.column.columns_of.Given as goal

abbrev pub invariant-loop-name : goal.invariant-loop-name
invariant-loop-name l = option_map (λ (more : List ColumnWords). l.out.items ++ more) (columns_from AtName (words l.rest)) ≡ columns_from AtName (words l.fn.bytes)

abbrev pub decreases-loop-name : goal.decreases-loop-name
decreases-loop-name l = length l.rest
