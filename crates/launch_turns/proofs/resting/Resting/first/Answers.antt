use Rattle.launch_turns.proofs.Rests.{rests_new}
use Rattle.launch_turns.proofs.resting.Resting.first.Goals as goal

pub new-requires-2 : goal.new-requires-2
new-requires-2 g c = rests_new g.N.Numbered.site g.N.Numbered.run_seed g.N.Staffed.children c.new.result.past c.args.launcher c.new.ensures c.requires.none c.requires.closed
