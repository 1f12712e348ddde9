use Rattle.http_front.proofs.Steps.{value_return_lf}
use Rattle.http_front.proofs.places.after_value_return.Goals as goal

pub returns-then-byte-eq10 : goal.returns-then-byte-eq10
returns-then-byte-eq10 c = value_return_lf c.args.byte c.if-byte-eq10.true
