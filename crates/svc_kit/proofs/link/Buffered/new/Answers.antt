use Rattle.svc_kit.proofs.Kept.{holding_nothing}
use Rattle.svc_kit.proofs.link.Buffered.new.Goals as goal

pub returns : goal.returns
returns g c = holding_nothing (g.L.Link.wire c.args.link)
