use Rattle.std.proofs.Common.{rules, append_assoc}
use Rattle.sqlite_keeper.proofs.joins.pair_order.Goals as goal

pub returns : goal.returns
returns c = simp append_assoc (search rules)
