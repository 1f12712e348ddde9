use Rattle.launch_crew.specs.Coming.{came_up}
use Rattle.okld_launch.specs.Launchers.{up_in}
use Rattle.okld_launch.proofs.Causing.{down_follows}
use Rattle.okld_launch.proofs.launcher.Launcher.launch.Goals as goal

pub go_on-requires-clause-cause : goal.go_on-requires-clause-cause
go_on-requires-clause-cause g c = down_follows (came_up c.args.self.crew.sat) (up_in c.args.self) c.args.self.journal.past c.args.service c.requires.down c.keeps.ensures.caused

pub returns-clause-whole : goal.returns-clause-whole
returns-clause-whole g c = λ up ended whole. c.go_on.ensures.whole up ended whole
