use Rattle.std.proofs.Common.{refl, subst}
use Rattle.okws_plan.specs.declared.event.OkdEvent.TheVariants as event
use Rattle.launch_crew.specs.Coming.{Came, NoneCame}
use Rattle.launch_crew.specs.Recorded.{Recorded}
use Rattle.launch_crew.proofs.Coming.{came_entered, none_seen, on_err}
use Rattle.launch_crew.proofs.Recording.{okd_entered, okd_seen}
use Rattle.launch_crew.proofs.recorder.Recorder.up.Goals as goal

pub invariant_of-self : goal.invariant_of-self
invariant_of-self g c =
    let h = c.in_err-up.ensures.err in
    okd_seen g.N.Numbered.site g.N.Numbered.launcher c.self.inside.seats c.up.new.self c.self.inside.cells c.self.inside.own.past c.self.inside.own.room c.self.inside.own.room c.self.invariant h.0 h.1 h.2

pub invariant_of-self-2 : goal.invariant_of-self-2
invariant_of-self-2 g c =
    let h = c.in_ok-up.ensures.ok in
    okd_entered g.N.Numbered.site g.N.Numbered.launcher c.self.inside.seats c.up.new.self c.self.inside.cells c.self.inside.own.past c.enter.new.self.past c.self.inside.own.room c.enter.new.self.room c.self.invariant
    (event.Up c.args.service c.args.incarnation) h.0 h.1 refl c.enter.ensures.past h.2

pub returns-clause-came : goal.returns-clause-came
returns-clause-came g c =
    let h = c.in_ok-up.ensures.ok in
    subst (λ (x : Recorded). Came c.args.service c.args.incarnation x.sat c.up.new.self) c.self.view_is (came_entered (event.Up c.args.service c.args.incarnation) h.0 c.self.inside.seats c.up.new.self h.2)

pub returns-in_err-up-clause-none : goal.returns-in_err-up-clause-none
returns-in_err-up-clause-none g c =
    let h = c.in_err-up.ensures.err in
    on_err c.from_residual.result (NoneCame c.args.self.now.sat c.up.new.self) (subst (λ (x : Recorded). NoneCame x.sat c.up.new.self) c.self.view_is (none_seen h.0 c.self.inside.seats c.up.new.self h.2))
