use Rattle.std.proofs.Common.{arith}
use Rattle.play_script.proofs.Sayable.{open_has}
use Rattle.play_script.proofs.frames.open.Goals as goal

pub returns-clause-spelling : goal.returns-clause-spelling
returns-clause-spelling c = open_has c.token-shown.result (omega arith) c.len-size.ensures.fits
