use Rattle.store_keeper.proofs.Whole.{numbers_next}
use Rattle.store_keeper.proofs.loading.numbers.Goals as goal

pub loop-at-preserved : goal.loop-at-preserved
loop-at-preserved c = numbers_next c.loop-at.numbers.items _ c.loop-at.at c.args.count c.loop-at-test.true c.in_ok-push.ensures.items c.loop-at.invariant
