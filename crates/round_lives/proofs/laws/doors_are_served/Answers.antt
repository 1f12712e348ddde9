use Rattle.round_lives.proofs.Rounded as rounded
use Rattle.round_lives.proofs.laws.doors_are_served.Goals as goal

pub returns : goal.returns
returns c start = λ C n w most seen e f J K drawn now a of h. rounded.doors_are_served C n w _ most seen e f J K drawn now a of h
