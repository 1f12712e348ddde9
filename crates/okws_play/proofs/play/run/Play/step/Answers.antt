use Rattle.std.proofs.Common.{◌≡◌, ◌∙◌, ◌<◌, length, sym, subst}
use Rattle.std.specs.Arc.{arc_value}
use Rattle.std.specs.Prelude.{alloc_error}
use Rattle.service_cell.specs.declared.answer.Advanced.{Advanced}
use Rattle.okws_play.specs.Run.{Run}
use Rattle.okws_play.proofs.Cells.{always}
use Rattle.okws_play.proofs.Running.{at_cell, step_run, goes_as, closes_as, starved_as, board_config, board_worker, is_there}
use Rattle.okws_play.proofs.Steps.{IsStep, step_of, speaking}
use Rattle.okws_play.proofs.play.run.Play.step.Goals as goal

pub advance-advanced-requires-clause-speaking : goal.advance-advanced-requires-clause-speaking
advance-advanced-requires-clause-speaking g c =
    let at = at_cell _ _ _ _ _ c.args.self.now c.args.service c.index_mut-cell.result.now c.self.invariant c.self.view_is c.requires.service c.index_mut-cell.ensures.value in
    speaking c.self.inside.columns.worker c.index_mut-cell.result.now c.open_request.result c.self.invariant.worker_is at.seat.own c.open_request.ensures.request (is_there c.in-Some.is)

pub advance-advanced-requires-clause-declared : goal.advance-advanced-requires-clause-declared
advance-advanced-requires-clause-declared g c =
    let at = at_cell _ _ _ _ _ c.args.self.now c.args.service c.index_mut-cell.result.now c.self.invariant c.self.view_is c.requires.service c.index_mut-cell.ensures.value in
    rw (at.seat.service_is, c.self.invariant.config_is) (subst (λ (v : Run). c.args.service < length v.config.services) (sym c.self.view_is) c.requires.service)

pub returns-clause-steps : goal.returns-clause-steps
returns-clause-steps g c =
    let at = at_cell _ _ _ _ _ c.args.self.now c.args.service c.index_mut-cell.result.now c.self.invariant c.self.view_is c.requires.service c.index_mut-cell.ensures.value in
    let made = step_of _ c.self.inside.columns.config c.self.inside.columns.worker c.args.service _ c.advance-advanced.new.columns.seen c.index_mut-cell.result.now c.advance-advanced.new.self _ c.advance-advanced.result c.self.invariant.config_is c.self.invariant.worker_is at.seat.service_is c.open_request.ensures.request (is_there c.in-Some.is) c.advance-advanced.ensures.advances c.advance-advanced.ensures.next in
    (goes_as c.print_step.result (arc_value c.self.inside.config) c.deref.result.now _ c.self.inside.columns c.advance-advanced.new.columns.seen c.self.inside.cells.items c.self.inside.requests.items c.args.self.now c.args.service c.index_mut-cell.result.now c.advance-advanced.new.self _ _ at (subst (λ (a : Advanced). IsStep (arc_value c.self.inside.config) c.args.service c.self.inside.columns.seen c.advance-advanced.new.columns.seen c.index_mut-cell.result.now c.advance-advanced.new.self a) c.in-Goes.is made) (c.open_request.ensures.there (is_there c.in-Some.is)) c.requires.ready c.deref.ensures c.print_step.ensures).steps

pub returns-clause-less : goal.returns-clause-less
returns-clause-less g c =
    let at = at_cell _ _ _ _ _ c.args.self.now c.args.service c.index_mut-cell.result.now c.self.invariant c.self.view_is c.requires.service c.index_mut-cell.ensures.value in
    let made = step_of _ c.self.inside.columns.config c.self.inside.columns.worker c.args.service _ c.advance-advanced.new.columns.seen c.index_mut-cell.result.now c.advance-advanced.new.self _ c.advance-advanced.result c.self.invariant.config_is c.self.invariant.worker_is at.seat.service_is c.open_request.ensures.request (is_there c.in-Some.is) c.advance-advanced.ensures.advances c.advance-advanced.ensures.next in
    always c.print_step.result (goes_as c.print_step.result (arc_value c.self.inside.config) c.deref.result.now _ c.self.inside.columns c.advance-advanced.new.columns.seen c.self.inside.cells.items c.self.inside.requests.items c.args.self.now c.args.service c.index_mut-cell.result.now c.advance-advanced.new.self _ _ at (subst (λ (a : Advanced). IsStep (arc_value c.self.inside.config) c.args.service c.self.inside.columns.seen c.advance-advanced.new.columns.seen c.index_mut-cell.result.now c.advance-advanced.new.self a) c.in-Goes.is made) (c.open_request.ensures.there (is_there c.in-Some.is)) c.requires.ready c.deref.ensures c.print_step.ensures).less

pub returns-then-closes-clause-steps : goal.returns-then-closes-clause-steps
returns-then-closes-clause-steps g c =
    let at = at_cell _ _ _ _ _ c.args.self.now c.args.service c.index_mut-cell.result.now c.self.invariant c.self.view_is c.requires.service c.index_mut-cell.ensures.value in
    let made = step_of _ c.self.inside.columns.config c.self.inside.columns.worker c.args.service _ c.advance-advanced.new.columns.seen c.index_mut-cell.result.now c.advance-advanced.new.self _ c.advance-advanced.result c.self.invariant.config_is c.self.invariant.worker_is at.seat.service_is c.open_request.ensures.request (is_there c.in-Some.is) c.advance-advanced.ensures.advances c.advance-advanced.ensures.next in
    (closes_as c.print_closing.result (arc_value c.self.inside.config) _ c.self.inside.columns c.advance-advanced.new.columns.seen c.self.inside.cells.items c.self.inside.requests.items c.args.self.now c.args.service c.in-Some.request c.index_mut-cell.result.now c.advance-advanced.new.self c.advance-advanced.result _ _ at made (sym c.closes.ensures ∙ c.if-closes.true) (c.open_request.ensures.there (is_there c.in-Some.is)) c.requires.ready (sym c.in-Some.is ∙ c.open_request.ensures.request) c.print_closing.ensures).steps

pub returns-then-closes-clause-less : goal.returns-then-closes-clause-less
returns-then-closes-clause-less g c =
    let at = at_cell _ _ _ _ _ c.args.self.now c.args.service c.index_mut-cell.result.now c.self.invariant c.self.view_is c.requires.service c.index_mut-cell.ensures.value in
    let made = step_of _ c.self.inside.columns.config c.self.inside.columns.worker c.args.service _ c.advance-advanced.new.columns.seen c.index_mut-cell.result.now c.advance-advanced.new.self _ c.advance-advanced.result c.self.invariant.config_is c.self.invariant.worker_is at.seat.service_is c.open_request.ensures.request (is_there c.in-Some.is) c.advance-advanced.ensures.advances c.advance-advanced.ensures.next in
    always c.print_closing.result (closes_as c.print_closing.result (arc_value c.self.inside.config) _ c.self.inside.columns c.advance-advanced.new.columns.seen c.self.inside.cells.items c.self.inside.requests.items c.args.self.now c.args.service c.in-Some.request c.index_mut-cell.result.now c.advance-advanced.new.self c.advance-advanced.result _ _ at made (sym c.closes.ensures ∙ c.if-closes.true) (c.open_request.ensures.there (is_there c.in-Some.is)) c.requires.ready (sym c.in-Some.is ∙ c.open_request.ensures.request) c.print_closing.ensures).less

pub invariant_of-self : goal.invariant_of-self
invariant_of-self g c =
    let at = at_cell _ _ _ _ _ c.args.self.now c.args.service c.index_mut-cell.result.now c.self.invariant c.self.view_is c.requires.service c.index_mut-cell.ensures.value in
    let made = step_of _ c.self.inside.columns.config c.self.inside.columns.worker c.args.service _ c.advance-advanced.new.columns.seen c.index_mut-cell.result.now c.advance-advanced.new.self _ c.advance-advanced.result c.self.invariant.config_is c.self.invariant.worker_is at.seat.service_is c.open_request.ensures.request (is_there c.in-Some.is) c.advance-advanced.ensures.advances c.advance-advanced.ensures.next in
    step_run _ _ _ c.advance-advanced.new.columns _ _ _ c.args.service c.index_mut-cell.result.now c.advance-advanced.new.self c.advance-advanced.result at made (c.open_request.ensures.there (is_there c.in-Some.is)) (board_config c.advance-advanced.ensures.board.asked) c.advance-advanced.ensures.board.seeded (board_worker c.advance-advanced.ensures.board.asked)

pub invariant_of-self-in_default-advanced : goal.invariant_of-self-in_default-advanced
invariant_of-self-in_default-advanced g c =
    let at = at_cell _ _ _ _ _ c.args.self.now c.args.service c.index_mut-cell.result.now c.self.invariant c.self.view_is c.requires.service c.index_mut-cell.ensures.value in
    let made = step_of _ c.self.inside.columns.config c.self.inside.columns.worker c.args.service _ c.advance-advanced.new.columns.seen c.index_mut-cell.result.now c.advance-advanced.new.self _ c.advance-advanced.result c.self.invariant.config_is c.self.invariant.worker_is at.seat.service_is c.open_request.ensures.request (is_there c.in-Some.is) c.advance-advanced.ensures.advances c.advance-advanced.ensures.next in
    step_run _ _ _ c.advance-advanced.new.columns _ _ _ c.args.service c.index_mut-cell.result.now c.advance-advanced.new.self c.advance-advanced.result at made (c.open_request.ensures.there (is_there c.in-Some.is)) (board_config c.advance-advanced.ensures.board.asked) c.advance-advanced.ensures.board.seeded (board_worker c.advance-advanced.ensures.board.asked)

pub invariant_of-self-2 : goal.invariant_of-self-2
invariant_of-self-2 g c =
    let at = at_cell _ _ _ _ _ c.args.self.now c.args.service c.index_mut-cell.result.now c.self.invariant c.self.view_is c.requires.service c.index_mut-cell.ensures.value in
    let made = step_of _ c.self.inside.columns.config c.self.inside.columns.worker c.args.service _ c.advance-advanced.new.columns.seen c.index_mut-cell.result.now c.advance-advanced.new.self _ c.advance-advanced.result c.self.invariant.config_is c.self.invariant.worker_is at.seat.service_is c.open_request.ensures.request (is_there c.in-Some.is) c.advance-advanced.ensures.advances c.advance-advanced.ensures.next in
    step_run _ _ _ c.advance-advanced.new.columns _ _ _ c.args.service c.index_mut-cell.result.now c.advance-advanced.new.self c.advance-advanced.result at made (c.open_request.ensures.there (is_there c.in-Some.is)) (board_config c.advance-advanced.ensures.board.asked) c.advance-advanced.ensures.board.seeded (board_worker c.advance-advanced.ensures.board.asked)

pub returns-in_default-advanced : goal.returns-in_default-advanced
returns-in_default-advanced g c =
    let at = at_cell _ _ _ _ _ c.args.self.now c.args.service c.index_mut-cell.result.now c.self.invariant c.self.view_is c.requires.service c.index_mut-cell.ensures.value in
    record { steps = starved_as alloc_error _ _ _ _ _ c.args.self.now c.args.self.now c.args.service c.index_mut-cell.result.now _ at; less = tt }
