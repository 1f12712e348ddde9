use Rattle.std.proofs.Common.{[], arith, flat_map}
use Rattle.frame_codec.proofs.Formats.{length-joined}
use Rattle.frame_codec.proofs.part.count_all.Goals as goal

pub returns-clause-count : goal.returns-clause-count
returns-clause-count g c =
    let counted = c.spell_all.ensures.spelled (record { count = c.args.before }) [] (omega arith) in
    omega (arith, counted, length-joined [] (flat_map g.P.Parts.parts c.args.items.now))
