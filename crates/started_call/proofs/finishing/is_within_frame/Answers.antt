use Rattle.std.proofs.Common.{lit<}
use Rattle.started_call.proofs.Capped.{capped_within}
use Rattle.started_call.proofs.finishing.is_within_frame.Goals as goal

pub returns : goal.returns
returns g c = rw (c.frame_length-length.ensures (g.P.Pinned.width c.args.pin.now)) (capped_within _ _ (lit< tt))
