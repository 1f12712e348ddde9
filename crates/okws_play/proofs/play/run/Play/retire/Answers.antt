use Rattle.std.proofs.Common.{◌≡◌, ◌∙◌, ap, sym}
use Rattle.monitor_model.specs.Cell.{incarnation, last_booted}
use Rattle.monitor_model.specs.Stage.{Stand}
use Rattle.okws_play.proofs.Changing.{retired_of, retired_booted, retired_empty, retired_closed, closed_none}
use Rattle.okws_play.proofs.Launching.{may_kept}
use Rattle.okws_play.proofs.Running.{at_cell, stand_now, board_config, board_worker}
use Rattle.okws_play.proofs.play.run.Play.retire.Goals as goal

pub invariant_of-self-2 : goal.invariant_of-self-2
invariant_of-self-2 c =
    let at = at_cell _ _ _ _ _ c.args.self.now c.args.service _ c.self.invariant c.self.view_is c.requires.service c.index_mut-cell.ensures.value in
    (retired_of _ _ _ _ _ _ _ _ _ _ _ at c.incarnation.ensures c.if-incarnation-eq0.false (closed_none c.index_mut-cell.result.now _ at.stand_is c.requires.closed) c.discard.ensures (board_config c.in_ok-note.ensures.board.asked) c.in_ok-note.ensures.board.seeded (board_worker c.in_ok-note.ensures.board.asked) c.in_ok-note.ensures.ok).run

pub returns-clause-state : goal.returns-clause-state
returns-clause-state c =
    let at = at_cell _ _ _ _ _ c.args.self.now c.args.service _ c.self.invariant c.self.view_is c.requires.service c.index_mut-cell.ensures.value in
    (retired_of _ _ _ _ _ _ _ _ _ _ _ at c.incarnation.ensures c.if-incarnation-eq0.false (closed_none c.index_mut-cell.result.now _ at.stand_is c.requires.closed) c.discard.ensures (board_config c.in_ok-note.ensures.board.asked) c.in_ok-note.ensures.board.seeded (board_worker c.in_ok-note.ensures.board.asked) c.in_ok-note.ensures.ok).state

pub returns-clause-booted : goal.returns-clause-booted
returns-clause-booted c =
    let at = at_cell _ _ _ _ _ c.args.self.now c.args.service _ c.self.invariant c.self.view_is c.requires.service c.index_mut-cell.ensures.value in
    ap (λ (t : Stand). last_booted t.past) (stand_now c.self.inside.cells.items c.args.service c.discard.new.self at.below) ∙ retired_booted c.index_mut-cell.result.now c.discard.new.self c.discard.ensures ∙ ap (λ (t : Stand). last_booted t.past) at.stand_is

pub returns-clause-empty : goal.returns-clause-empty
returns-clause-empty c =
    let at = at_cell _ _ _ _ _ c.args.self.now c.args.service _ c.self.invariant c.self.view_is c.requires.service c.index_mut-cell.ensures.value in
    ap (λ (t : Stand). incarnation t.past) (stand_now c.self.inside.cells.items c.args.service c.discard.new.self at.below) ∙ retired_empty c.index_mut-cell.result.now c.discard.new.self c.discard.ensures

pub returns-clause-closed : goal.returns-clause-closed
returns-clause-closed c =
    let at = at_cell _ _ _ _ _ c.args.self.now c.args.service _ c.self.invariant c.self.view_is c.requires.service c.index_mut-cell.ensures.value in
    ap (λ (t : Stand). t.open_dialog) (stand_now c.self.inside.cells.items c.args.service c.discard.new.self at.below) ∙ retired_closed c.index_mut-cell.result.now c.discard.new.self (closed_none c.index_mut-cell.result.now _ at.stand_is c.requires.closed) c.discard.ensures

pub returns-clause-may : goal.returns-clause-may
returns-clause-may c =
    let at = at_cell _ _ _ _ _ c.args.self.now c.args.service _ c.self.invariant c.self.view_is c.requires.service c.index_mut-cell.ensures.value in
    may_kept _ _ _ (ap (λ v. v.launcher) c.in_ok-note.ensures.ok ∙ ap (λ v. v.stage.seen.launcher) c.self.view_is) (ap (λ v. v.proxies) c.in_ok-note.ensures.ok ∙ ap (λ v. v.stage.seen.proxies) c.self.view_is)
    (ap (λ v. v.pubd) c.in_ok-note.ensures.ok ∙ ap (λ v. v.stage.seen.pubd) c.self.view_is) (ap (λ v. v.oklogd) c.in_ok-note.ensures.ok ∙ ap (λ v. v.stage.seen.oklogd) c.self.view_is)
    (ap (λ (t : Stand). last_booted t.past) (stand_now c.self.inside.cells.items c.args.service c.discard.new.self at.below) ∙ retired_booted c.index_mut-cell.result.now c.discard.new.self c.discard.ensures ∙ ap (λ (t : Stand). last_booted t.past) at.stand_is)
