use Rattle.std.proofs.Common.{sym}
use Rattle.http_front.proofs.Steps.{line_token}
use Rattle.http_front.proofs.places.after_line.Goals as goal

pub returns-then-is_method_token : goal.returns-then-is_method_token
returns-then-is_method_token c = line_token c.args.byte (sym c.if-is_method_token.ensures)
