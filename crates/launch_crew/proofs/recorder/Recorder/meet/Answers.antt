use Rattle.std.proofs.Common.{◌∙◌, ℕ, ◌≤◌, refl, ap, subst}
use Rattle.okws_base.specs.Turns.{GrowsBy}
use Rattle.monitor_model.specs.Cell.{last_booted}
use Rattle.site_cells.specs.Held.{by_event}
use Rattle.site_cells.proofs.Stays.{last_grown}
use Rattle.site_cells.specs.Row.{seen_at, link_at}
use Rattle.launch_crew.specs.Finished.{all_out}
use Rattle.launch_crew.specs.Recorded.{Recorded}
use Rattle.launch_crew.proofs.Counting.{all_met}
use Rattle.launch_crew.proofs.Recording.{cell_seen, last_behind}
use Rattle.launch_crew.specs.Listed.{CellsGo}
use Rattle.launch_crew.proofs.Retiring.{cells_go}
use Rattle.launch_crew.proofs.recorder.Recorder.meet.Goals as goal

pub invariant_of-self : goal.invariant_of-self
invariant_of-self g c =
    let n = g.N.Numbered.launcher in
    let u = c.args.note.service in
    let grows = subst (λ m. GrowsBy (by_event n) m (seen_at c.self.inside.cells u) (seen_at c.meet.new.self u)) c.self.invariant.watch_number c.meet.ensures.grows in
    cell_seen g.N.Numbered.site n u c.self.inside.seats c.self.inside.cells c.meet.new.self c.self.inside.own.past c.self.inside.own.past c.self.inside.own.room c.self.inside.own.room
    (seen_at c.meet.new.self u) c.meet.ensures.only grows c.self.invariant refl refl

pub returns-clause-last : goal.returns-clause-last
returns-clause-last g c =
    let n = g.N.Numbered.launcher in
    let u = c.args.note.service in
    let grows = subst (λ m. GrowsBy (by_event n) m (seen_at c.self.inside.cells u) (seen_at c.meet.new.self u)) c.self.invariant.watch_number c.meet.ensures.grows in
    last_grown n (seen_at c.self.inside.cells u) (seen_at c.meet.new.self u) grows ∙ ap (λ (r : Recorded). last_booted (seen_at r.watch u)) c.self.view_is

pub returns-clause-link : goal.returns-clause-link
returns-clause-link g c = c.meet.ensures.link c.self.invariant.watch_number ∙ ap (λ (r : Recorded). link_at r.watch c.args.note.service) c.self.view_is

pub returns-clause-met : goal.returns-clause-met
returns-clause-met g c = last_behind c.args.note.seen (seen_at c.meet.new.self c.args.note.service) c.meet.ensures.met

pub returns-clause-behind : goal.returns-clause-behind
returns-clause-behind g c = subst (λ (r : Recorded). CellsGo r.watch c.meet.new.self) c.self.view_is
    (cells_go c.args.note.service c.self.inside.cells c.meet.new.self c.meet.ensures.only (c.meet.ensures.grows.0, c.meet.ensures.grows.2))

pub returns-clause-out : goal.returns-clause-out
returns-clause-out g c =
    let n = g.N.Numbered.launcher in
    let u = c.args.note.service in
    let grows = subst (λ m. GrowsBy (by_event n) m (seen_at c.self.inside.cells u) (seen_at c.meet.new.self u)) c.self.invariant.watch_number c.meet.ensures.grows in
    subst (λ (r : Recorded). (m : ℕ) → all_out c.meet.new.self m ≤ all_out r.watch m) c.self.view_is
    (all_met n u c.self.inside.cells c.meet.new.self c.meet.ensures.only grows (c.meet.ensures.link c.self.invariant.watch_number) (c.keeps.ensures u))
