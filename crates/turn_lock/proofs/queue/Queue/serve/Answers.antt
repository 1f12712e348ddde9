use Rattle.std.proofs.Common.{rules}
use Rattle.turn_lock.proofs.Steps.{serves_turn, rings}
use Rattle.turn_lock.proofs.queue.Queue.serve.Goals as goal

pub fetch_add-served-requires : goal.fetch_add-served-requires
fetch_add-served-requires g c = (search rules, search rules, serves_turn _ _ _ _ _ _ c.requires.turn.0 _ c.requires.entries.0 c.requires.turn.1 c.requires.entries.1 c.requires.entries.2 c.requires.entries.3)

pub store-requires : goal.store-requires
store-requires g c = (search rules, search rules, rings _ _ _ _ _ _ _ _ _ c.bell_of-bell.ensures.0)
