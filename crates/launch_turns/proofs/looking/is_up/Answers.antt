use Rattle.launch_turns.proofs.Counted.{up_shown}
use Rattle.launch_turns.proofs.looking.is_up.Goals as goal

pub returns : goal.returns
returns g c = up_shown g.N.Numbered.site c.args.launcher.now c.args.service c.up_now.result c.is_some.result c.keeps.ensures.is c.up_now.ensures.none c.up_now.ensures.some c.is_some.ensures
