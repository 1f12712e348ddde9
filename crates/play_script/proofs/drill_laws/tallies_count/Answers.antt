use Rattle.play_script.proofs.Tallies.{tally_counts}
use Rattle.play_script.proofs.drill_laws.tallies_count.Goals as goal

pub returns : goal.returns
returns c = tally_counts
