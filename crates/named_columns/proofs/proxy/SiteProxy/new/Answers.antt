use Rattle.named_columns.proofs.Keeps.{proxy_first}
use Rattle.named_columns.proofs.proxy.SiteProxy.new.Goals as goal

pub invariant_of-result : goal.invariant_of-result
invariant_of-result g c = proxy_first g.N.Numbered.site g.N.Numbered.run_seed g.N.Numbered.launcher g.N.Backed.tells g.N.Backed.steady g.N.Backed.keeper_faults c.args.proxy c.requires.site c.requires.rules c.requires.seed c.requires.declared c.requires.fresh c.requires.told c.requires.steady c.requires.faults
