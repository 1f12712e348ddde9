use Rattle.plain_text.proofs.Digits.{one_digit_more}
use Rattle.plain_text.proofs.decimals.capped_decimal.Goals as goal

pub loop-digit-preserved : goal.loop-digit-preserved
loop-digit-preserved c =
    one_digit_more _ c.args.digits.now c.loop-digit.digit-index c.loop-digit.number c.saturating_mul.result c.from.result _ c.requires c.loop-digit-test.true c.loop-digit.invariant
    c.saturating_mul.ensures c.from.ensures c.saturating_add-number.ensures
