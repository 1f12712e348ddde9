use Rattle.okws_server.proofs.Files.{reads_stop}
use Rattle.okws_server.proofs.preparing.config_of.Goals as goal

pub returns-in-Err-clause-is : goal.returns-in-Err-clause-is
returns-in-Err-clause-is c = rw c.stop_of.ensures (reads_stop c.args.bytes.now c.in-Err.error c.in-Err.ensures.is)
