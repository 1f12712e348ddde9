use Rattle.std.proofs.Common.{rules}
use Rattle.turn_lock.proofs.Moves.{deals}
use Rattle.turn_lock.proofs.queue.Queue.deal.Goals as goal

pub split_seat-requires : goal.split_seat-requires
split_seat-requires g c = (search rules, search rules, deals _ _ _ _ _ _ c.requires.rest.0 c.requires.rest.1 c.requires.rest.2 c.requires.rest.3)
