use Rattle.std.proofs.Common.{List, sym, subst}
use Rattle.okws_base.specs.Turns.{Behind}
use Rattle.okws_base.specs.declared.journal.Entry.{Entry}
use Rattle.okws_plan.specs.declared.event.OkdEvent.{OkdEvent}
use Rattle.site_worker.specs.Lives.{Sees, Working, life_of}
use Rattle.site_worker.proofs.Lives.{sees_shown}
use Rattle.site_worker.proofs.worker.Worker.see_shown.Goals as goal

pub returns-clause-met : goal.returns-clause-met
returns-clause-met g c =
    subst (λ (x : Working). Behind x.life.shown c.meet.new.self.okd) c.self.view_is
    (subst (λ (J : List (Entry OkdEvent)). Behind J c.meet.new.self.okd) c.again-note.ensures.again c.meet.ensures.met)

pub returns-clause-sees : goal.returns-clause-sees
returns-clause-sees g c =
    let s = c.self.inside.hands in
    let now = c.meet.new.self in
    let cells = c.self.inside.at_cells in
    let seat = c.self.inside.at_launcher in
    let shown = c.self.inside.shown in
    subst (λ (x : Working). Sees x.life.seen x.life (life_of now cells seat c.again-note.new.self)) c.self.view_is
    (subst (λ (J : List (Entry OkdEvent)). Sees (life_of s cells seat shown).seen (life_of s cells seat shown) (life_of now cells seat J)) (sym c.again-note.ensures.same)
    (sees_shown s now cells seat shown c.meet.ensures.seen c.meet.ensures.only c.meet.ensures.okd))
