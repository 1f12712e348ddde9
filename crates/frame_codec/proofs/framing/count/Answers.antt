use Rattle.std.proofs.Common.{[], arith}
use Rattle.frame_codec.proofs.Formats.{length-joined}
use Rattle.frame_codec.proofs.framing.count.Goals as goal

pub returns-clause-count : goal.returns-clause-count
returns-clause-count g c =
    let counted = c.spell.ensures.spelled (record { count = 0 }) [] (omega arith) in
    omega (arith, counted, length-joined [] (g.F.Frame.parts c.args.frame.now))
