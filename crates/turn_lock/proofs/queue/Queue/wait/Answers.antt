use Rattle.std.proofs.Common.{rules}
use Rattle.turn_lock.proofs.Steps.{looks}
use Rattle.turn_lock.proofs.queue.Queue.wait.Goals as goal

pub load-now-requires : goal.load-now-requires
load-now-requires g c = (search rules, search rules, looks _ _ _ _ _ _ _)
