use Rattle.round_lives.proofs.Coming as coming
use Rattle.round_lives.proofs.laws.orders_come_anyway.Goals as goal

pub returns : goal.returns
returns c = coming.come_anyway
