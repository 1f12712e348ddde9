use Rattle.std.proofs.Common.{arith}
use Rattle.frame_codec.proofs.Bounded.{boot_has}
use Rattle.frame_codec.proofs.making.boot.Goals as goal

pub returns-clause-spelling : goal.returns-clause-spelling
returns-clause-spelling c = boot_has c.args.service c.args.incarnation c.args.tokens (omega arith) (omega arith) c.requires (rw c.as_slice.ensures at c.count_all-size.ensures.fits)
