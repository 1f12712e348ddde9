use Rattle.std.proofs.Common.{sym}
use Rattle.http_front.proofs.Steps.{value_value, value_cr, value_lf}
use Rattle.http_front.proofs.places.after_value.Goals as goal

pub returns-then-is_header_value_token : goal.returns-then-is_header_value_token
returns-then-is_header_value_token c = value_value c.args.byte (sym c.if-is_header_value_token.ensures)

pub returns-then-byte-eq13 : goal.returns-then-byte-eq13
returns-then-byte-eq13 c = value_cr c.args.byte c.if-byte-eq13.true

pub returns-then-byte-eq10 : goal.returns-then-byte-eq10
returns-then-byte-eq10 c = value_lf c.args.byte c.if-byte-eq10.true
