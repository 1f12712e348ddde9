use Rattle.launch_turns.specs.Looking.{Stands}
use Rattle.launch_turns.proofs.looking.standing_of.Given as goal

abbrev pub invariant-loop-service : goal.invariant-loop-service
invariant-loop-service g l = Stands l.launcher.crew.sat.okd l.launcher.journal.past l.service l.standing
