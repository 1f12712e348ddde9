use Rattle.plain_text.proofs.Digits.{front_digits}
use Rattle.plain_text.proofs.decimals.leading_digits.Goals as goal

pub returns-clause-digits : goal.returns-clause-digits
returns-clause-digits c = rw c.digits_len.ensures.is (front_digits c.args.text.now)
