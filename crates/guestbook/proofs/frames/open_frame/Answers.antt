use Rattle.std.proofs.Common.{arith}
use Rattle.guestbook.proofs.Sayable.{open_has}
use Rattle.guestbook.proofs.frames.open_frame.Goals as goal

pub returns-clause-spelling : goal.returns-clause-spelling
returns-clause-spelling c = open_has c.args.shown (omega arith) c.len-size.ensures.fits
