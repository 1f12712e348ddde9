use Rattle.std.proofs.Common.{arith}
use Rattle.frame_codec.proofs.Bounded.{template_has}
use Rattle.frame_codec.proofs.making.template.Goals as goal

pub returns-clause-spelling : goal.returns-clause-spelling
returns-clause-spelling c = template_has c.args.edition c.args.content (omega arith) (rw c.as_slice.ensures at c.len-size.ensures.fits) c.requires
