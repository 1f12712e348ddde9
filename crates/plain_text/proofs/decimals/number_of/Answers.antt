use Rattle.std.proofs.Common.{arith, sym, ◌∙◌}
use Rattle.plain_text.proofs.Digits.{number_below, number_found}
use Rattle.plain_text.proofs.decimals.number_of.Goals as goal

pub overflow_cast-result : goal.overflow_cast-result
overflow_cast-result c =
    let below = number_below c.args.word.now c.capped_decimal.result (sym c.is_a_number.ensures ∙ c.if-is_a_number.true) c.capped_decimal.ensures in
    record { fits = omega (arith, below) }

pub returns-then-is_a_number-clause-is : goal.returns-then-is_a_number-clause-is
returns-then-is_a_number-clause-is c = number_found c.args.word.now c.capped_decimal.result (sym c.is_a_number.ensures ∙ c.if-is_a_number.true) c.capped_decimal.ensures

pub returns-then-is_a_number-clause-below : goal.returns-then-is_a_number-clause-below
returns-then-is_a_number-clause-below c = number_below c.args.word.now c.capped_decimal.result (sym c.is_a_number.ensures ∙ c.if-is_a_number.true) c.capped_decimal.ensures
