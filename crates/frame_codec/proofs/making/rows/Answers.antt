use Rattle.std.proofs.Common.{arith}
use Rattle.frame_codec.proofs.Bounded.{rows_has}
use Rattle.frame_codec.proofs.making.rows.Goals as goal

pub returns-clause-spelling : goal.returns-clause-spelling
returns-clause-spelling c = rows_has c.args.columns c.args.rows c.requires.some (omega arith) c.requires.wide (rw c.as_slice.ensures at c.count_all-size.ensures.fits) c.requires.short
