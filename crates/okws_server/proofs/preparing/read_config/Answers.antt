use Rattle.std.proofs.Common.{ℕ, List, Some, subst}
use Rattle.okws_server.specs.Ran.{ReadsConfig}
use Rattle.okws_server.proofs.Files.{reads_whole}
use Rattle.okws_server.proofs.preparing.read_config.Goals as goal

pub returns-in-Ok-clause-is : goal.returns-in-Ok-clause-is
returns-in-Ok-clause-is g c =
    reads_whole ((g.F.Files.shelf c.args.files.now).held c.args.path.now) c.in-Ok.bytes.items c.config_of.result c.in-Ok.ensures.bytes
    (subst (λ (t : List ℕ). ReadsConfig (Some t) c.config_of.result) c.deref.ensures.value c.config_of.ensures.is)
