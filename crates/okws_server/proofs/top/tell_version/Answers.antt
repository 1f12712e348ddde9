use Rattle.std.proofs.Common.{subst}
use Rattle.okws_outer.specs.Printing.{PrintsOn}
use Rattle.okws_server.proofs.Ended.{version_by}
use Rattle.okws_server.proofs.top.tell_version.Goals as goal

pub returns : goal.returns
returns g c = rw c.out_status.ensures (version_by _ _ _ (subst (PrintsOn _ _) c.as_bytes.ensures.value c.print.ensures))
