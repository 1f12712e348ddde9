use Rattle.std.proofs.Common.{rules}
use Rattle.turn_lock.proofs.Moves.{notes}
use Rattle.turn_lock.proofs.queue.Queue.split.Goals as goal

pub split_seat-place-requires : goal.split_seat-place-requires
split_seat-place-requires g c = (search rules, search rules, notes _ _ _ _ _ _)
