use Rattle.std.proofs.Common.{sym}
use Rattle.http_front.proofs.Steps.{name_token, name_colon}
use Rattle.http_front.proofs.places.after_name.Goals as goal

pub returns-then-is_method_token : goal.returns-then-is_method_token
returns-then-is_method_token c = name_token c.args.byte (sym c.if-is_method_token.ensures)

pub returns-then-byte-eq58 : goal.returns-then-byte-eq58
returns-then-byte-eq58 c = name_colon c.args.byte c.if-byte-eq58.true
