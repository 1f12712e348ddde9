use Rattle.std.proofs.Common.{arith}
use Rattle.std.proofs.lemmas.Grind.{common_steps}
use Rattle.http_front.proofs.Open.{looks_quiet}
use Rattle.http_front.proofs.looking.look_on.Goals as goal

pub returns-in-Some : goal.returns-in-Some
returns-in-Some c = looks_quiet _ _ c.args.bytes.now _ c.args.before (grind (arith, common_steps)) c.if-bytes-lt-LONGEST_HEAD.true c.in-Some.ensures
