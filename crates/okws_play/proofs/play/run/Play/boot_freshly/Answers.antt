use Rattle.std.proofs.Common.{◌≡◌, ◌∙◌, ◌<◌, ◌≤◌, ap, arith, length, refl, sym}
use Rattle.monitor_model.specs.Cell.{incarnation, last_booted}
use Rattle.monitor_model.specs.Stage.{Stand}
use Rattle.okws_play.proofs.Changing.{booted_run, booted_state, booted_most, seat_self, seat_from, later_here}
use Rattle.okws_play.proofs.Running.{at_cell, stand_now, board_config, board_worker}
use Rattle.okws_play.proofs.play.run.Play.boot_freshly.Goals as goal

pub boot_cell-requires-clause-seat : goal.boot_cell-requires-clause-seat
boot_cell-requires-clause-seat g c = let at = at_cell _ _ _ _ _ c.args.self.now c.args.service c.index_mut.result.now c.self.invariant c.self.view_is c.requires.service c.index_mut.ensures.value in seat_self _ _ _ c.index_mut.result.now at.seat

pub boot_cell-requires-clause-few : goal.boot_cell-requires-clause-few
boot_cell-requires-clause-few g c = let at = at_cell _ _ _ _ _ c.args.self.now c.args.service c.index_mut.result.now c.self.invariant c.self.view_is c.requires.service c.index_mut.ensures.value in rw at.seat.config_is c.self.invariant.few

pub invariant_of-self : goal.invariant_of-self
invariant_of-self g c =
    let at = at_cell _ _ _ _ _ c.args.self.now c.args.service c.index_mut.result.now c.self.invariant c.self.view_is c.requires.service c.index_mut.ensures.value in
    booted_run _ _ c.self.inside.columns c.self.inside.columns _ _ _ c.args.service c.greatest-incarnation.result c.index_mut.result.now c.boot_cell.new.cell at (seat_from _ _ _ c.index_mut.result.now c.boot_cell.new.cell at.seat c.boot_cell.ensures.seat)
    (omega (arith, ap last_booted c.in_err-boot_cell.ensures.err, later_here _ _ _ _ _ _ c.args.service c.index_mut.result.now c.greatest-incarnation.result at c.greatest-incarnation.ensures.is c.requires.later)) c.greatest-incarnation.ensures.is refl refl refl refl

pub invariant_of-self-in_err-note : goal.invariant_of-self-in_err-note
invariant_of-self-in_err-note g c =
    let at = at_cell _ _ _ _ _ c.args.self.now c.args.service c.index_mut.result.now c.self.invariant c.self.view_is c.requires.service c.index_mut.ensures.value in
    booted_run _ _ c.self.inside.columns c.note.new.self _ _ _ c.args.service c.greatest-incarnation.result c.index_mut.result.now c.boot_cell.new.cell at (seat_from _ _ _ c.index_mut.result.now c.boot_cell.new.cell at.seat c.boot_cell.ensures.seat)
    (booted_most c.index_mut.result.now c.boot_cell.new.cell c.greatest-incarnation.result c.in_ok-boot_cell.ensures.ok (later_here _ _ _ _ _ _ c.args.service c.index_mut.result.now c.greatest-incarnation.result at c.greatest-incarnation.ensures.is c.requires.later)) c.greatest-incarnation.ensures.is
    (board_config c.note.ensures.board.asked) c.note.ensures.board.seeded (board_worker c.note.ensures.board.asked) (ap (λ v. v.launcher) c.in_err-note.ensures.err)

pub invariant_of-self-2 : goal.invariant_of-self-2
invariant_of-self-2 g c =
    let at = at_cell _ _ _ _ _ c.args.self.now c.args.service c.index_mut.result.now c.self.invariant c.self.view_is c.requires.service c.index_mut.ensures.value in
    booted_run _ _ c.self.inside.columns c.note.new.self _ _ _ c.args.service c.greatest-incarnation.result c.index_mut.result.now c.boot_cell.new.cell at (seat_from _ _ _ c.index_mut.result.now c.boot_cell.new.cell at.seat c.boot_cell.ensures.seat)
    (booted_most c.index_mut.result.now c.boot_cell.new.cell c.greatest-incarnation.result c.in_ok-boot_cell.ensures.ok (later_here _ _ _ _ _ _ c.args.service c.index_mut.result.now c.greatest-incarnation.result at c.greatest-incarnation.ensures.is c.requires.later)) c.greatest-incarnation.ensures.is
    (board_config c.note.ensures.board.asked) c.note.ensures.board.seeded (board_worker c.note.ensures.board.asked) (ap (λ v. v.launcher) c.in_ok-note.ensures.ok)

pub returns-clause-state : goal.returns-clause-state
returns-clause-state g c =
    let at = at_cell _ _ _ _ _ c.args.self.now c.args.service c.index_mut.result.now c.self.invariant c.self.view_is c.requires.service c.index_mut.ensures.value in
    (booted_state _ _ _ _ _ _ _ c.args.service c.greatest-incarnation.result c.index_mut.result.now c.boot_cell.new.cell at c.in_ok-boot_cell.ensures.ok c.greatest-incarnation.ensures.is c.in_ok-note.ensures.ok)

pub returns-clause-there : goal.returns-clause-there
returns-clause-there g c =
    let at = at_cell _ _ _ _ _ c.args.self.now c.args.service c.index_mut.result.now c.self.invariant c.self.view_is c.requires.service c.index_mut.ensures.value in
    let number = ap (λ (t : Stand). incarnation t.past) (stand_now c.self.inside.cells.items c.args.service c.boot_cell.new.cell at.below ∙ c.in_ok-boot_cell.ensures.ok) in
    (omega (arith, number, later_here _ _ _ _ _ _ c.args.service c.index_mut.result.now c.greatest-incarnation.result at c.greatest-incarnation.ensures.is c.requires.later))
