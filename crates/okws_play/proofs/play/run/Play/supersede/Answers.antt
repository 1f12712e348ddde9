use Rattle.std.proofs.Common.{◌≡◌, ◌∙◌, ◌<◌, ap, arith, subst, sym}
use Rattle.std.specs.Prelude.{IsSome}
use Rattle.std.proofs.lemmas.Result.{on_ok_weaker}
use Rattle.monitor_model.specs.Cell.{incarnation, last_booted}
use Rattle.monitor_model.specs.Stage.{Stand}
use Rattle.monitor_model.proofs.Lawful.Cells.{was_booted}
use Rattle.okws_play.proofs.Cells.{always}
use Rattle.okws_play.proofs.Changing.{superseded_of, superseded_closed}
use Rattle.okws_play.proofs.Launching.{may_kept}
use Rattle.okws_play.proofs.Printing.{same_as}
use Rattle.okws_play.proofs.Running.{at_cell, stand_now, is_there}
use Rattle.okws_play.proofs.play.run.Play.supersede.Goals as goal

pub supersede-requires-clause-above : goal.supersede-requires-clause-above
supersede-requires-clause-above g c =
    let at = at_cell _ _ _ _ _ c.args.self.now c.args.service _ c.self.invariant c.self.view_is c.requires.service c.index_mut-cell.ensures.value in
    let later = ap (λ v. v.stage.seen.launcher) c.self.view_is in
    let past = ap (λ (t : Stand). last_booted t.past) at.stand_is in
    omega (arith, was_booted c.index_mut-cell.result.now.past, past, c.requires.later, c.greatest-shown.ensures.is, ap (λ J. Rattle.monitor_model.specs.Launcher.begun J c.args.service) later)

pub invariant_of-self-2 : goal.invariant_of-self-2
invariant_of-self-2 g c =
    let at = at_cell _ _ _ _ _ c.args.self.now c.args.service _ c.self.invariant c.self.view_is c.requires.service c.index_mut-cell.ensures.value in
    (superseded_of _ _ _ _ _ _ _ _ _ _ _ at (c.open_request.ensures.there (is_there c.in-Some.is)) (sym c.in-Some.is ∙ c.open_request.ensures.request) c.greatest-shown.ensures.is c.supersede.ensures).run

pub returns-clause-state : goal.returns-clause-state
returns-clause-state g c =
    let at = at_cell _ _ _ _ _ c.args.self.now c.args.service _ c.self.invariant c.self.view_is c.requires.service c.index_mut-cell.ensures.value in
    always c.print_unavailable.result
    (superseded_of _ _ _ _ _ _ _ _ _ _ _ at (c.open_request.ensures.there (is_there c.in-Some.is)) (sym c.in-Some.is ∙ c.open_request.ensures.request) c.greatest-shown.ensures.is c.supersede.ensures).state

pub returns-clause-booted : goal.returns-clause-booted
returns-clause-booted g c =
    let at = at_cell _ _ _ _ _ c.args.self.now c.args.service _ c.self.invariant c.self.view_is c.requires.service c.index_mut-cell.ensures.value in
    always c.print_unavailable.result (ap (λ (t : Stand). last_booted t.past) (stand_now c.self.inside.cells.items c.args.service c.supersede.new.self at.below)
    ∙ (superseded_of _ _ _ _ _ _ _ _ _ _ _ at (c.open_request.ensures.there (is_there c.in-Some.is)) (sym c.in-Some.is ∙ c.open_request.ensures.request) c.greatest-shown.ensures.is c.supersede.ensures).past)

pub returns-clause-closed : goal.returns-clause-closed
returns-clause-closed g c =
    let at = at_cell _ _ _ _ _ c.args.self.now c.args.service _ c.self.invariant c.self.view_is c.requires.service c.index_mut-cell.ensures.value in
    always c.print_unavailable.result (ap (λ (t : Stand). t.open_dialog) (stand_now c.self.inside.cells.items c.args.service c.supersede.new.self at.below) ∙ superseded_closed c.index_mut-cell.result.now c.supersede.new.self _ c.greatest-shown.result (is_there c.in-Some.is) c.open_request.ensures.request c.supersede.ensures)

pub returns-clause-may : goal.returns-clause-may
returns-clause-may g c =
    let at = at_cell _ _ _ _ _ c.args.self.now c.args.service _ c.self.invariant c.self.view_is c.requires.service c.index_mut-cell.ensures.value in
    λ may. always c.print_unavailable.result (may_kept _ _ _ (ap (λ v. v.stage.seen.launcher) c.self.view_is) (ap (λ v. v.stage.seen.proxies) c.self.view_is) (ap (λ v. v.stage.seen.pubd) c.self.view_is) (ap (λ v. v.stage.seen.oklogd) c.self.view_is)
    (ap (λ (t : Stand). last_booted t.past) (stand_now c.self.inside.cells.items c.args.service c.supersede.new.self at.below)
    ∙ (superseded_of _ _ _ _ _ _ _ _ _ _ _ at (c.open_request.ensures.there (is_there c.in-Some.is)) (sym c.in-Some.is ∙ c.open_request.ensures.request) c.greatest-shown.ensures.is c.supersede.ensures).past) may)

pub returns-clause-printed : goal.returns-clause-printed
returns-clause-printed g c =
    let at = at_cell _ _ _ _ _ c.args.self.now c.args.service _ c.self.invariant c.self.view_is c.requires.service c.index_mut-cell.ensures.value in
    same_as c.print_unavailable.result _ _ _ _
    (superseded_of _ _ _ _ _ _ _ _ _ _ _ at (c.open_request.ensures.there (is_there c.in-Some.is)) (sym c.in-Some.is ∙ c.open_request.ensures.request) c.greatest-shown.ensures.is c.supersede.ensures).text c.print_unavailable.ensures
