use Rattle.std.proofs.Common.{rules, refl, arith}
use Rattle.turn_lock.proofs.Steps.{draws_ticket}
use Rattle.turn_lock.proofs.queue.Queue.draw.Goals as goal

pub compare_exchange-found-requires : goal.compare_exchange-found-requires
compare_exchange-found-requires g c = (search rules, search rules, draws_ticket _ _ _ _ _ _ _ _ _ (search rules) (search rules) refl (omega arith))
