use Rattle.named_columns.proofs.Keeps.{pubd_first}
use Rattle.named_columns.proofs.pubd.SitePubd.new.Goals as goal

pub invariant_of-result : goal.invariant_of-result
invariant_of-result g c = pubd_first g.N.Numbered.site g.N.Numbered.launcher c.args.pubd c.requires.site c.requires.rules c.requires.fresh
