use Rattle.std.proofs.Common.{◌<◌, length, subst, sym}
use Rattle.std.specs.Arc.{arc_value}
use Rattle.std.specs.Prelude.{alloc_error, slice_set}
use Rattle.frame_codec.specs.declared.frame.ServerFrame.TheVariants as frame
use Rattle.okws_outer.specs.Printing.{printer}
use Rattle.okws_play.specs.Printed.{BeginsAs}
use Rattle.okws_play.specs.Run.{Run}
use Rattle.okws_play.proofs.Going.{asked_as}
use Rattle.okws_play.proofs.Printing.{by_err}
use Rattle.okws_play.proofs.Running.{IsBeginning, at_cell, beginning, begin_run, ended_as, none_as, started_cut, started_on, run_of, board_config, board_worker}
use Rattle.okws_play.proofs.play.run.Play.begin_dialog.Goals as goal

pub begin-requires-clause-declared : goal.begin-requires-clause-declared
begin-requires-clause-declared g c =
    let at = at_cell _ _ _ _ _ c.args.self.now c.args.goes.0 c.index_mut-cell.result.now c.self.invariant c.self.view_is c.requires.service c.index_mut-cell.ensures.value in
    rw (at.seat.service_is, c.self.invariant.config_is) (subst (λ (v : Run). c.args.goes.0 < length v.config.services) (sym c.self.view_is) c.requires.service)

pub invariant_of-self : goal.invariant_of-self
invariant_of-self g c =
    let at = at_cell _ _ _ _ _ c.args.self.now c.args.goes.0 c.index_mut-cell.result.now c.self.invariant c.self.view_is c.requires.service c.index_mut-cell.ensures.value in
    begin_run _ c.self.inside.columns.config _ _ c.begin.new.columns _ _ _ c.self.inside.columns.worker c.args.goes.0 c.args.number c.args.goes.1 (frame.Request c.args.head c.args.content) c.index_mut-cell.result.now c.begin.new.self c.begin.result at c.requires.wanted c.self.invariant.worker_is
    c.begin.ensures.begins (board_config c.begin.ensures.board.asked) c.begin.ensures.board.seeded (board_worker c.begin.ensures.board.asked)

pub invariant_of-self-in-Started : goal.invariant_of-self-in-Started
invariant_of-self-in-Started g c =
    let at = at_cell _ _ _ _ _ c.args.self.now c.args.goes.0 c.index_mut-cell.result.now c.self.invariant c.self.view_is c.requires.service c.index_mut-cell.ensures.value in
    begin_run _ c.self.inside.columns.config _ _ c.begin.new.columns _ _ _ c.self.inside.columns.worker c.args.goes.0 c.args.number c.args.goes.1 (frame.Request c.args.head c.args.content) c.index_mut-cell.result.now c.begin.new.self c.begin.result at c.requires.wanted c.self.invariant.worker_is
    c.begin.ensures.begins (board_config c.begin.ensures.board.asked) c.begin.ensures.board.seeded (board_worker c.begin.ensures.board.asked)

pub invariant_of-self-in-Missed : goal.invariant_of-self-in-Missed
invariant_of-self-in-Missed g c =
    let at = at_cell _ _ _ _ _ c.args.self.now c.args.goes.0 c.index_mut-cell.result.now c.self.invariant c.self.view_is c.requires.service c.index_mut-cell.ensures.value in
    begin_run _ c.self.inside.columns.config _ _ c.begin.new.columns _ _ _ c.self.inside.columns.worker c.args.goes.0 c.args.number c.args.goes.1 (frame.Request c.args.head c.args.content) c.index_mut-cell.result.now c.begin.new.self c.begin.result at c.requires.wanted c.self.invariant.worker_is
    c.begin.ensures.begins (board_config c.begin.ensures.board.asked) c.begin.ensures.board.seeded (board_worker c.begin.ensures.board.asked)

pub invariant_of-self-in-Superseded : goal.invariant_of-self-in-Superseded
invariant_of-self-in-Superseded g c =
    let at = at_cell _ _ _ _ _ c.args.self.now c.args.goes.0 c.index_mut-cell.result.now c.self.invariant c.self.view_is c.requires.service c.index_mut-cell.ensures.value in
    begin_run _ c.self.inside.columns.config _ _ c.begin.new.columns _ _ _ c.self.inside.columns.worker c.args.goes.0 c.args.number c.args.goes.1 (frame.Request c.args.head c.args.content) c.index_mut-cell.result.now c.begin.new.self c.begin.result at c.requires.wanted c.self.invariant.worker_is
    c.begin.ensures.begins (board_config c.begin.ensures.board.asked) c.begin.ensures.board.seeded (board_worker c.begin.ensures.board.asked)

pub invariant_of-self-in_default : goal.invariant_of-self-in_default
invariant_of-self-in_default g c =
    let at = at_cell _ _ _ _ _ c.args.self.now c.args.goes.0 c.index_mut-cell.result.now c.self.invariant c.self.view_is c.requires.service c.index_mut-cell.ensures.value in
    begin_run _ c.self.inside.columns.config _ _ c.begin.new.columns _ _ _ c.self.inside.columns.worker c.args.goes.0 c.args.number c.args.goes.1 (frame.Request c.args.head c.args.content) c.index_mut-cell.result.now c.begin.new.self c.begin.result at c.requires.wanted c.self.invariant.worker_is
    c.begin.ensures.begins (board_config c.begin.ensures.board.asked) c.begin.ensures.board.seeded (board_worker c.begin.ensures.board.asked)

pub returns-in-Missed : goal.returns-in-Missed
returns-in-Missed g c =
    let at = at_cell _ _ _ _ _ c.args.self.now c.args.goes.0 c.index_mut-cell.result.now c.self.invariant c.self.view_is c.requires.service c.index_mut-cell.ensures.value in
    let asked = asked_as c.args.self.now.stage.requests c.args.number c.args.head c.args.content c.requires.there c.requires.asked in
    let made = beginning (arc_value c.self.inside.config) c.self.inside.columns.config c.self.inside.seed c.self.inside.columns c.begin.new.columns.seen c.self.inside.cells.items c.self.inside.requests.items c.args.self.now c.self.inside.columns.worker c.args.goes.0 c.args.number c.args.goes.1 c.args.head c.args.content c.index_mut-cell.result.now c.begin.new.self c.begin.result at asked c.requires.closed c.requires.wanted c.self.invariant.config_is c.self.invariant.worker_is c.begin.ensures.begins in
    ended_as c.print_unavailable.result (arc_value c.self.inside.config) c.self.inside.seed c.self.inside.columns c.begin.new.columns.seen c.self.inside.cells.items c.self.inside.requests.items c.args.self.now c.args.goes.0 c.args.number c.args.goes.1 c.args.head c.args.content c.index_mut-cell.result.now c.begin.new.self _ _ _ (subst (IsBeginning (arc_value c.self.inside.config) c.self.inside.seed c.self.inside.columns c.begin.new.columns.seen c.self.inside.cells.items c.self.inside.requests.items c.args.self.now c.args.goes.0 c.args.number c.args.goes.1 c.args.head c.args.content c.index_mut-cell.result.now c.begin.new.self) c.in-Missed.is made) tt c.print_unavailable.ensures

pub returns-in-Superseded : goal.returns-in-Superseded
returns-in-Superseded g c =
    let at = at_cell _ _ _ _ _ c.args.self.now c.args.goes.0 c.index_mut-cell.result.now c.self.invariant c.self.view_is c.requires.service c.index_mut-cell.ensures.value in
    let asked = asked_as c.args.self.now.stage.requests c.args.number c.args.head c.args.content c.requires.there c.requires.asked in
    let made = beginning (arc_value c.self.inside.config) c.self.inside.columns.config c.self.inside.seed c.self.inside.columns c.begin.new.columns.seen c.self.inside.cells.items c.self.inside.requests.items c.args.self.now c.self.inside.columns.worker c.args.goes.0 c.args.number c.args.goes.1 c.args.head c.args.content c.index_mut-cell.result.now c.begin.new.self c.begin.result at asked c.requires.closed c.requires.wanted c.self.invariant.config_is c.self.invariant.worker_is c.begin.ensures.begins in
    ended_as c.print_unavailable-in-Superseded.result (arc_value c.self.inside.config) c.self.inside.seed c.self.inside.columns c.begin.new.columns.seen c.self.inside.cells.items c.self.inside.requests.items c.args.self.now c.args.goes.0 c.args.number c.args.goes.1 c.args.head c.args.content c.index_mut-cell.result.now c.begin.new.self _ _ _ (subst (IsBeginning (arc_value c.self.inside.config) c.self.inside.seed c.self.inside.columns c.begin.new.columns.seen c.self.inside.cells.items c.self.inside.requests.items c.args.self.now c.args.goes.0 c.args.number c.args.goes.1 c.args.head c.args.content c.index_mut-cell.result.now c.begin.new.self) c.in-Superseded.is made) tt c.print_unavailable-in-Superseded.ensures

pub returns-in_default : goal.returns-in_default
returns-in_default g c =
    let at = at_cell _ _ _ _ _ c.args.self.now c.args.goes.0 c.index_mut-cell.result.now c.self.invariant c.self.view_is c.requires.service c.index_mut-cell.ensures.value in
    none_as alloc_error _ _ _ _ _ c.args.self.now c.args.self.now c.args.goes.0 c.args.number c.args.goes.1 c.args.head c.args.content c.index_mut-cell.result.now _ at (asked_as c.args.self.now.stage.requests c.args.number c.args.head c.args.content c.requires.there c.requires.asked)

pub returns-in_err-print_step-in-Started : goal.returns-in_err-print_step-in-Started
returns-in_err-print_step-in-Started g c =
    let at = at_cell _ _ _ _ _ c.args.self.now c.args.goes.0 c.index_mut-cell.result.now c.self.invariant c.self.view_is c.requires.service c.index_mut-cell.ensures.value in
    let asked = asked_as c.args.self.now.stage.requests c.args.number c.args.head c.args.content c.requires.there c.requires.asked in
    let made = beginning (arc_value c.self.inside.config) c.self.inside.columns.config c.self.inside.seed c.self.inside.columns c.begin.new.columns.seen c.self.inside.cells.items c.self.inside.requests.items c.args.self.now c.self.inside.columns.worker c.args.goes.0 c.args.number c.args.goes.1 c.args.head c.args.content c.index_mut-cell.result.now c.begin.new.self c.begin.result at asked c.requires.closed c.requires.wanted c.self.invariant.config_is c.self.invariant.worker_is c.begin.ensures.begins in
    by_err c.from_residual.result (λ r. BeginsAs c.args.number c.args.goes.0 c.args.goes.1 c.args.self.now (printer g.O.Sink.given g.O.Sink.faults c.args.out.now c.args.stopped.now) (printer g.O.Sink.given g.O.Sink.faults c.print_step.new.out c.print_step.new.stopped) r (run_of (arc_value c.self.inside.config) c.self.inside.seed c.begin.new.columns.seen (slice_set c.self.inside.cells.items c.args.goes.0 c.begin.new.self) c.self.inside.requests.items)) c.from_residual.ensures.0
    (λ e. started_cut e (arc_value c.self.inside.config) c.deref.result.now c.self.inside.seed c.self.inside.columns c.begin.new.columns.seen c.self.inside.cells.items c.self.inside.requests.items c.args.self.now (run_of (arc_value c.self.inside.config) c.self.inside.seed c.begin.new.columns.seen (slice_set c.self.inside.cells.items c.args.goes.0 c.begin.new.self) c.self.inside.requests.items) c.args.goes.0 c.args.number c.args.goes.1 c.args.head c.args.content c.index_mut-cell.result.now c.begin.new.self (printer g.O.Sink.given g.O.Sink.faults c.args.out.now c.args.stopped.now) (printer g.O.Sink.given g.O.Sink.faults c.print_step.new.out c.print_step.new.stopped)
    (subst (IsBeginning (arc_value c.self.inside.config) c.self.inside.seed c.self.inside.columns c.begin.new.columns.seen c.self.inside.cells.items c.self.inside.requests.items c.args.self.now c.args.goes.0 c.args.number c.args.goes.1 c.args.head c.args.content c.index_mut-cell.result.now c.begin.new.self) c.in-Started.is made) c.deref.ensures c.in_err-print_step-in-Started.ensures)

pub returns-in_ok-print_step-in-Started : goal.returns-in_ok-print_step-in-Started
returns-in_ok-print_step-in-Started g c =
    let at = at_cell _ _ _ _ _ c.args.self.now c.args.goes.0 c.index_mut-cell.result.now c.self.invariant c.self.view_is c.requires.service c.index_mut-cell.ensures.value in
    let asked = asked_as c.args.self.now.stage.requests c.args.number c.args.head c.args.content c.requires.there c.requires.asked in
    let made = beginning (arc_value c.self.inside.config) c.self.inside.columns.config c.self.inside.seed c.self.inside.columns c.begin.new.columns.seen c.self.inside.cells.items c.self.inside.requests.items c.args.self.now c.self.inside.columns.worker c.args.goes.0 c.args.number c.args.goes.1 c.args.head c.args.content c.index_mut-cell.result.now c.begin.new.self c.begin.result at asked c.requires.closed c.requires.wanted c.self.invariant.config_is c.self.invariant.worker_is c.begin.ensures.begins in
    started_on c.go_on.result (arc_value c.self.inside.config) c.deref.result.now c.self.inside.seed c.self.inside.columns c.begin.new.columns.seen c.self.inside.cells.items c.self.inside.requests.items c.args.self.now c.go_on.new.self c.args.goes.0 c.args.number c.args.goes.1 c.args.head c.args.content c.index_mut-cell.result.now c.begin.new.self _ _ _
    (subst (IsBeginning (arc_value c.self.inside.config) c.self.inside.seed c.self.inside.columns c.begin.new.columns.seen c.self.inside.cells.items c.self.inside.requests.items c.args.self.now c.args.goes.0 c.args.number c.args.goes.1 c.args.head c.args.content c.index_mut-cell.result.now c.begin.new.self) c.in-Started.is made) c.deref.ensures c.in_ok-print_step-in-Started.ensures c.go_on.ensures
