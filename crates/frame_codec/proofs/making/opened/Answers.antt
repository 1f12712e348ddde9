use Rattle.std.proofs.Common.{arith}
use Rattle.frame_codec.proofs.Bounded.{opened_has}
use Rattle.frame_codec.proofs.making.opened.Goals as goal

pub returns-clause-spelling : goal.returns-clause-spelling
returns-clause-spelling c = opened_has c.args.session (omega arith)
