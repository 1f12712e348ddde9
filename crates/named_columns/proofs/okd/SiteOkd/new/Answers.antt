use Rattle.named_columns.proofs.Keeps.{okd_first}
use Rattle.named_columns.proofs.okd.SiteOkd.new.Goals as goal

pub invariant_of-result : goal.invariant_of-result
invariant_of-result g c = okd_first g.N.Numbered.site g.N.Numbered.launcher c.args.okd c.requires.site c.requires.rules c.requires.fresh
