use Rattle.play_script.proofs.Unrefused.{never_refused}
use Rattle.play_script.proofs.drill_laws.drills_are_never_refused.Goals as goal

pub returns : goal.returns
returns c = never_refused
