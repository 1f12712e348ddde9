use Rattle.launch_crew.proofs.Recording.{unused}
use Rattle.launch_crew.proofs.recorder.Recorder.new.Goals as goal

pub invariant_of-result : goal.invariant_of-result
invariant_of-result g c = unused g.N.Numbered.site g.N.Numbered.launcher c.args.seats c.args.cells c.new.result.past c.new.result.room c.requires.seats c.requires.cells c.new.ensures.past c.requires.few.0 c.requires.few.1
