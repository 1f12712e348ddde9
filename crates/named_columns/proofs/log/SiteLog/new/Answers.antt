use Rattle.named_columns.proofs.Keeps.{log_first}
use Rattle.named_columns.proofs.log.SiteLog.new.Goals as goal

pub invariant_of-result : goal.invariant_of-result
invariant_of-result g c = log_first g.N.Numbered.site g.N.Numbered.launcher g.N.Backed.sink_faults c.args.daemon c.requires.site c.requires.fresh.0 c.requires.fresh.1 c.requires.faults
