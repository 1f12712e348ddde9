use Rattle.std.proofs.Common.{sym}
use Rattle.http_front.proofs.Steps.{blanks_lf, blanks_cr, blanks_token}
use Rattle.http_front.proofs.places.after_blanks.Goals as goal

pub returns-then-byte-eq10 : goal.returns-then-byte-eq10
returns-then-byte-eq10 c = blanks_lf c.args.byte c.if-byte-eq10.true

pub returns-then-byte-eq13 : goal.returns-then-byte-eq13
returns-then-byte-eq13 c = blanks_cr c.args.byte c.if-byte-eq13.true

pub returns-then-is_method_token : goal.returns-then-is_method_token
returns-then-is_method_token c = blanks_token c.args.byte (sym c.if-is_method_token.ensures)
