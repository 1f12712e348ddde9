use Rattle.std.proofs.Common.{[], rules, refl}
use Rattle.frame_link.proofs.Sends.{gathers_all}
use Rattle.frame_link.proofs.sending.put_frame.Goals as goal

pub returns : goal.returns
returns g c =
    let taken = c.spell.ensures c.on-sending.result [] (refl, rw (← c.on-sending.ensures.same) at c.on-sending.ensures.nothing) in
    let sent = gathers_all _ _ _ _ (c.flush.ensures.puts (g.L.Link.wire c.on-sending.result.link.now) _ taken.1) in
    search rules
