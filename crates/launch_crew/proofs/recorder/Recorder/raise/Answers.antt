use Rattle.std.proofs.Common.{◌∙◌, ap, arith, length-set}
use Rattle.std.specs.Prelude.{slice_index, slice_set}
use Rattle.site_locks.specs.Sat.{Sat}
use Rattle.launch_crew.proofs.Slots.{set_here}
use Rattle.launch_crew.proofs.Recording.{board_raised}
use Rattle.launch_crew.proofs.recorder.Recorder.raise.Goals as goal

pub invariant_of-self : goal.invariant_of-self
invariant_of-self g c = board_raised g.N.Numbered.site g.N.Numbered.launcher c.self.inside.seats c.raise.new.self c.self.inside.cells c.self.inside.own.past c.self.inside.own.room c.self.inside.own.room c.self.invariant
    (slice_set c.self.inside.seats.board c.args.service c.args.incarnation) (length-set c.self.inside.seats.board c.args.service c.args.incarnation) c.raise.ensures.seen

pub returns-clause-shown : goal.returns-clause-shown
returns-clause-shown g c =
    ap (λ (x : Sat). slice_index x.board c.args.service) c.raise.ensures.seen
    ∙ set_here c.self.inside.seats.board c.args.service c.args.incarnation (omega (arith, c.self.invariant.board_are, c.requires.service))
