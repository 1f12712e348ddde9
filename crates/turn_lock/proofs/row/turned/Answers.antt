use Rattle.std.proofs.Common.{rules}
use Rattle.turn_lock.proofs.Dealt.{whole}
use Rattle.turn_lock.proofs.row.turned.Goals as goal

pub returns : goal.returns
returns g c = whole c.args.items.len c.reverse.new.self c.args.items.items (search rules) (search rules)
