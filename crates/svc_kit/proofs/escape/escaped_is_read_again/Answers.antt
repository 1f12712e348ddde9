use Rattle.svc_kit.proofs.Escaping as escaping
use Rattle.svc_kit.proofs.escape.escaped_is_read_again.Goals as goal

pub returns : goal.returns
returns c = escaping.is_read_again
