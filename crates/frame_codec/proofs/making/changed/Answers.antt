use Rattle.std.proofs.Common.{arith}
use Rattle.frame_codec.proofs.Bounded.{changed_has}
use Rattle.frame_codec.proofs.making.changed.Goals as goal

pub returns-clause-spelling : goal.returns-clause-spelling
returns-clause-spelling c = changed_has c.args.rows (omega arith)
