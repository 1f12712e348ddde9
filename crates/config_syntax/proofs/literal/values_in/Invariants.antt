use Rattle.std.proofs.Common.{◌≡◌, ◌++◌, drop, List}
use Rattle.std.specs.Prelude.{option_map}
use Rattle.okws_base.specs.declared.value.Value.{Value}
use Rattle.config_syntax.specs.Literals.{values_of}
use Rattle.config_syntax.proofs.literal.values_in.Given as goal

abbrev pub invariant-loop-placed : goal.invariant-loop-placed
invariant-loop-placed l = option_map (λ (more : List Value). l.out.items ++ more) (values_of l.text (drop l.placed-index l.tokens)) ≡ values_of l.text l.tokens
