use Rattle.std.proofs.Common.{arith}
use Rattle.frame_codec.proofs.Bounded.{push_has}
use Rattle.frame_codec.proofs.making.push.Goals as goal

pub returns-clause-spelling : goal.returns-clause-spelling
returns-clause-spelling c = push_has c.args.template c.args.edition c.args.content c.requires.template (rw c.as_slice.ensures at c.len.ensures.fits) (omega arith) (rw c.as_slice-2.ensures at c.len-2.ensures.fits) c.requires.content
