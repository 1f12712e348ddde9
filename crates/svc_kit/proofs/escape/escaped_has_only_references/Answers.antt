use Rattle.svc_kit.proofs.Escaping as escaping
use Rattle.svc_kit.proofs.escape.escaped_has_only_references.Goals as goal

pub returns : goal.returns
returns c = escaping.has_only_references
