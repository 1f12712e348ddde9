use Rattle.std.proofs.Common.{◌≡◌, ◌∙◌, sym, subst}
use Rattle.launch_crew.specs.Crews.{crew_of}
use Rattle.launch_crew.specs.Ended.{Attended}
use Rattle.launch_turns.specs.Deeds.{ended_in, entries, up_in}
use Rattle.okld_launch.specs.Pieces.{EndsAreTold, IsWhole}
use Rattle.launch_turns.specs.Resting.{RestingIs}
use Rattle.launch_turns.proofs.resting.Resting.close.Goals as goal

pub returns-clause-past : goal.returns-clause-past
returns-clause-past g c = subst (λ (r : RestingIs). c.close-past.result.0 ≡ entries r.deeds) c.self.view_is (c.close-past.ensures.past ∙ sym c.self.invariant.entries_are)

pub returns-clause-crew : goal.returns-clause-crew
returns-clause-crew g c = subst (λ (r : RestingIs). crew_of c.close-past.result.1.recorder c.close-past.result.1.staff ≡ r.launcher.crew) c.self.view_is c.close-past.ensures.crew

pub returns-clause-whole : goal.returns-clause-whole
returns-clause-whole g c = subst (λ (r : RestingIs). IsWhole g.N.Numbered.site g.N.Numbered.run_seed (up_in r.deeds) c.close-past.result.0 c.close-past.result.1.recorder.watch.cells c.close-past.result.1.recorder.own) c.self.view_is
    (c.close-past.ensures.whole (up_in c.self.inside.deeds.past) (ended_in c.self.inside.deeds.past) c.self.invariant.closed)

pub returns-clause-attended : goal.returns-clause-attended
returns-clause-attended g c = subst Attended (sym c.close-past.ensures.crew) c.self.invariant.closed.attended

pub returns-clause-ended : goal.returns-clause-ended
returns-clause-ended g c = subst (λ (r : RestingIs). EndsAreTold g.N.Staffed.children (ended_in r.deeds) (crew_of c.close-past.result.1.recorder c.close-past.result.1.staff)) c.self.view_is
    (subst (EndsAreTold g.N.Staffed.children (ended_in c.self.inside.deeds.past)) (sym c.close-past.ensures.crew) c.self.invariant.closed.told)

pub returns-clause-deeds : goal.returns-clause-deeds
returns-clause-deeds g c = subst (λ (r : RestingIs). c.into_told.result.past ≡ r.deeds) c.self.view_is c.into_told.ensures
