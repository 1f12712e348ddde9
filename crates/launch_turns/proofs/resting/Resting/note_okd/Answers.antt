use Rattle.std.proofs.Common.{List, sym, subst}
use Rattle.okws_base.specs.declared.journal.Entry.{Entry}
use Rattle.okws_plan.specs.declared.event.OkdEvent.{OkdEvent}
use Rattle.okld_launch.specs.Launchers.{LauncherIs}
use Rattle.launch_turns.specs.Resting.{RestingIs, Rests}
use Rattle.launch_turns.specs.Standing.{UpsStand}
use Rattle.launch_turns.proofs.Standing.{ups_stand}
use Rattle.launch_turns.proofs.resting.Resting.note_okd.Goals as goal

pub invariant_of-self : goal.invariant_of-self
invariant_of-self g c = subst (λ (l : LauncherIs). Rests g.N.Numbered.site g.N.Numbered.run_seed g.N.Staffed.children c.self.inside.deeds.past l) (sym c.note_okd.ensures.same) c.self.invariant

pub returns-clause-stand : goal.returns-clause-stand
returns-clause-stand g c =
    let l = c.self.inside.launcher in
    let deeds = c.self.inside.deeds.past in
    subst (λ (r : RestingIs). UpsStand r.deeds c.note_okd.result) c.self.view_is
    (subst (λ (J : List (Entry OkdEvent)). UpsStand deeds J) (sym c.note_okd.ensures.note)
    (ups_stand g.N.Numbered.site g.N.Numbered.run_seed g.N.Numbered.launcher deeds l.journal.past l.crew.sat l.crew.watch l.crew.own c.self.invariant.entries_are c.self.invariant.closed.whole c.note_okd.ensures.own))
