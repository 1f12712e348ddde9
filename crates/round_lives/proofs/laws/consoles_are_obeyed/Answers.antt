use Rattle.round_lives.proofs.Obeyed as obeyed
use Rattle.round_lives.proofs.laws.consoles_are_obeyed.Goals as goal

pub returns : goal.returns
returns c = obeyed.consoles_are_obeyed
