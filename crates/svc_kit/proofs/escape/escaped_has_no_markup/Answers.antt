use Rattle.svc_kit.proofs.Escaping as escaping
use Rattle.svc_kit.proofs.escape.escaped_has_no_markup.Goals as goal

pub returns : goal.returns
returns c = escaping.has_no_markup
