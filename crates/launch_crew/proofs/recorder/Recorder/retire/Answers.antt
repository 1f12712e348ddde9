use Rattle.std.proofs.Common.{◌≡◌, ◌∙◌, ℕ, ◌+◌, ◌≤◌, refl, sym, ap, subst}
use Rattle.std.specs.Prelude.{◌&&◌}
use Rattle.site_cells.specs.Held.{is_broken}
use Rattle.site_cells.specs.Row.{seen_at, link_at}
use Rattle.launch_crew.specs.Finished.{all_out, one_if}
use Rattle.okws_outer.specs.Wire.{Wire}
use Rattle.launch_crew.proofs.Bare.{bare_holds, bare_there}
use Rattle.launch_crew.proofs.Counting.{all_emptied}
use Rattle.launch_crew.proofs.Recording.{cell_retired, cell_seen, retired_there, retired_none}
use Rattle.launch_crew.specs.Recorded.{Recorded}
use Rattle.launch_crew.specs.Listed.{CellsGo, of_cells}
use Rattle.monitor_model.specs.Launches.{with_retired}
use Rattle.monitor_model.specs.declared.record.CellEvent.TheVariants as cell
use Rattle.launch_crew.proofs.Retiring.{go_before, go_behind, retired_empty, retired_full}
use Rattle.launch_crew.proofs.recorder.Recorder.retire.Goals as goal

pub invariant_of-self : goal.invariant_of-self
invariant_of-self g c =
    let h = c.retire-was.ensures.retired in
    cell_retired g.N.Numbered.site g.N.Numbered.launcher c.args.service c.self.inside.seats c.self.inside.cells c.retire-was.new.self c.self.inside.own.past c.enter.new.self.past c.self.inside.own.room c.enter.new.self.room
    h.before.past c.retire-was.ensures.only h.found.grows c.self.invariant c.enter.ensures.past
    (retired_there (λ (w : Wire). w) g.N.Numbered.launcher c.args.service (seen_at c.self.inside.cells c.args.service) c.retire-was.result.0 c.retire-was.result.1 (seen_at c.retire-was.new.self c.args.service) c.retire-was.ensures.retired c.if-was-ne0.true)

pub invariant_of-self-else-was-ne0 : goal.invariant_of-self-else-was-ne0
invariant_of-self-else-was-ne0 g c =
    let h = c.retire-was.ensures.retired in
    cell_seen g.N.Numbered.site g.N.Numbered.launcher c.args.service c.self.inside.seats c.self.inside.cells c.retire-was.new.self c.self.inside.own.past c.self.inside.own.past c.self.inside.own.room c.self.inside.own.room
    h.before.past c.retire-was.ensures.only h.found.grows c.self.invariant refl
    (retired_none (λ (w : Wire). w) g.N.Numbered.launcher c.args.service (seen_at c.self.inside.cells c.args.service) c.retire-was.result.0 c.retire-was.result.1 (seen_at c.retire-was.new.self c.args.service) c.retire-was.ensures.retired c.if-was-ne0.false)

pub returns-then-was-ne0-clause-own : goal.returns-then-was-ne0-clause-own
returns-then-was-ne0-clause-own g c =
    let h = c.retire-was.ensures.retired in
    subst (λ (r : Recorded). c.enter.new.self.past ≡ with_retired (of_cells c.retire-was.new.self.cells) c.args.service r.own) c.self.view_is
    (retired_full g.N.Numbered.launcher c.args.service c.self.inside.seats c.self.inside.cells c.retire-was.new.self c.self.inside.own.past c.enter.new.self.past h.before.past c.retire-was.ensures.only c.self.invariant.own_is h.found.grows
    (retired_there (λ (w : Wire). w) g.N.Numbered.launcher c.args.service (seen_at c.self.inside.cells c.args.service) c.retire-was.result.0 c.retire-was.result.1 (seen_at c.retire-was.new.self c.args.service) c.retire-was.ensures.retired c.if-was-ne0.true)
    (λ none. c.if-was-ne0.true (h.was_is ∙ none)) c.enter.ensures.past)

pub returns-then-was-ne0-clause-behind : goal.returns-then-was-ne0-clause-behind
returns-then-was-ne0-clause-behind g c =
    let h = c.retire-was.ensures.retired in
    subst (λ (r : Recorded). CellsGo r.watch c.retire-was.new.self) c.self.view_is
    (go_behind g.N.Numbered.launcher c.args.service c.self.inside.seats c.self.inside.cells c.retire-was.new.self c.self.inside.own.past c.enter.new.self.past h.before.past c.retire-was.ensures.only c.self.invariant.own_is h.found.grows cell.Retired
    (retired_there (λ (w : Wire). w) g.N.Numbered.launcher c.args.service (seen_at c.self.inside.cells c.args.service) c.retire-was.result.0 c.retire-was.result.1 (seen_at c.retire-was.new.self c.args.service) c.retire-was.ensures.retired c.if-was-ne0.true))

pub returns-else-was-ne0-clause-own : goal.returns-else-was-ne0-clause-own
returns-else-was-ne0-clause-own g c =
    let h = c.retire-was.ensures.retired in
    subst (λ (r : Recorded). c.self.inside.own.past ≡ with_retired (of_cells c.retire-was.new.self.cells) c.args.service r.own) c.self.view_is
    (retired_empty g.N.Numbered.launcher c.args.service c.self.inside.seats c.self.inside.cells c.retire-was.new.self c.self.inside.own.past c.self.inside.own.past h.before.past c.retire-was.ensures.only c.self.invariant.own_is h.found.grows
    (retired_none (λ (w : Wire). w) g.N.Numbered.launcher c.args.service (seen_at c.self.inside.cells c.args.service) c.retire-was.result.0 c.retire-was.result.1 (seen_at c.retire-was.new.self c.args.service) c.retire-was.ensures.retired c.if-was-ne0.false)
    (sym h.was_is ∙ c.if-was-ne0.false) refl)

pub returns-else-was-ne0-clause-behind : goal.returns-else-was-ne0-clause-behind
returns-else-was-ne0-clause-behind g c =
    let h = c.retire-was.ensures.retired in
    subst (λ (r : Recorded). CellsGo r.watch c.retire-was.new.self) c.self.view_is
    (go_before g.N.Numbered.launcher c.args.service c.self.inside.seats c.self.inside.cells c.retire-was.new.self c.self.inside.own.past c.self.inside.own.past h.before.past c.retire-was.ensures.only c.self.invariant.own_is h.found.grows
    (retired_none (λ (w : Wire). w) g.N.Numbered.launcher c.args.service (seen_at c.self.inside.cells c.args.service) c.retire-was.result.0 c.retire-was.result.1 (seen_at c.retire-was.new.self c.args.service) c.retire-was.ensures.retired c.if-was-ne0.false))

pub returns-then-was-ne0-clause-link : goal.returns-then-was-ne0-clause-link
returns-then-was-ne0-clause-link g c = bare_there g.L.Link.wire c.retire-was.result.1 c.bare_link-link.result c.bare_link-link.ensures ∙ (c.retire-was.ensures.taken ∙ ap (λ (r : Recorded). link_at r.watch c.args.service) c.self.view_is)

pub returns-else-was-ne0-clause-link : goal.returns-else-was-ne0-clause-link
returns-else-was-ne0-clause-link g c = bare_there g.L.Link.wire c.retire-was.result.1 c.bare_link-link.result c.bare_link-link.ensures ∙ (c.retire-was.ensures.taken ∙ ap (λ (r : Recorded). link_at r.watch c.args.service) c.self.view_is)

pub returns-then-was-ne0-clause-holds : goal.returns-then-was-ne0-clause-holds
returns-then-was-ne0-clause-holds g c = bare_holds g.L.Link.wire c.retire-was.result.1 c.bare_link-link.result _ c.bare_link-link.ensures c.retire-was.ensures.holds

pub returns-else-was-ne0-clause-holds : goal.returns-else-was-ne0-clause-holds
returns-else-was-ne0-clause-holds g c = bare_holds g.L.Link.wire c.retire-was.result.1 c.bare_link-link.result _ c.bare_link-link.ensures c.retire-was.ensures.holds

pub returns-then-was-ne0-clause-out : goal.returns-then-was-ne0-clause-out
returns-then-was-ne0-clause-out g c =
    let s = c.args.service in
    let old = c.self.inside.cells in
    let new = c.retire-was.new.self in
    subst (λ (r : Recorded). (n : ℕ) → all_out new n ≤ all_out r.watch n + one_if (link_at r.watch s && is_broken (seen_at new s))) c.self.view_is
    (all_emptied (λ (w : Wire). w) g.N.Numbered.launcher s old new c.retire-was.result.0 c.retire-was.result.1 c.retire-was.ensures.only c.retire-was.ensures.retired c.retire-was.ensures.law c.retire-was.ensures.link (c.keeps.ensures s))

pub returns-else-was-ne0-clause-out : goal.returns-else-was-ne0-clause-out
returns-else-was-ne0-clause-out g c =
    let s = c.args.service in
    let old = c.self.inside.cells in
    let new = c.retire-was.new.self in
    subst (λ (r : Recorded). (n : ℕ) → all_out new n ≤ all_out r.watch n + one_if (link_at r.watch s && is_broken (seen_at new s))) c.self.view_is
    (all_emptied (λ (w : Wire). w) g.N.Numbered.launcher s old new c.retire-was.result.0 c.retire-was.result.1 c.retire-was.ensures.only c.retire-was.ensures.retired c.retire-was.ensures.law c.retire-was.ensures.link (c.keeps.ensures s))
