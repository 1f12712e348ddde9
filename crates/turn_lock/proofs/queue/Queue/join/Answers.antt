use Rattle.std.proofs.Common.{ap}
use Rattle.turn_lock.proofs.Parts.{joined_told, joined_has}
use Rattle.turn_lock.proofs.queue.Queue.join.Goals as goal

pub returns-clause-told : goal.returns-clause-told
returns-clause-told g c = λ log t.
    rw (← c.into_place.ensures) (joined_told g.V.Journaled.by log _ c.learn.new.place.me.0 c.args.spot.now.place.me.0 c.into_place.result.me.0 (ap (λ m. m.0) c.learn.ensures.learned.0) c.learn.ensures.learned.1.0 t)

pub returns-clause-numbers : goal.returns-clause-numbers
returns-clause-numbers g c = λ k. rw (← c.into_place.ensures) (λ h. joined_has k _ c.learn.new.place.me.0 c.args.spot.now.place.me.0 c.into_place.result.me.0 (ap (λ m. m.0) c.learn.ensures.learned.0) h)
