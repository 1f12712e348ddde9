use Rattle.std.proofs.Common.{sym}
use Rattle.http_front.proofs.Steps.{method_token, method_space}
use Rattle.http_front.proofs.places.after_method.Goals as goal

pub returns-then-is_method_token : goal.returns-then-is_method_token
returns-then-is_method_token c = λ bytes size. method_token c.args.byte (sym c.if-is_method_token.ensures) bytes

pub returns-then-byte-eq32 : goal.returns-then-byte-eq32
returns-then-byte-eq32 c = method_space c.args.byte c.args.before c.if-byte-eq32.true
