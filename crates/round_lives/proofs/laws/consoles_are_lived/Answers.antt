use Rattle.round_lives.proofs.Rounded as rounded
use Rattle.round_lives.proofs.laws.consoles_are_lived.Goals as goal

pub returns : goal.returns
returns c = rounded.consoles_are_lived
