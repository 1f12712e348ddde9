use Rattle.std.proofs.Common.{◌≢◌, subst, sym, arith, rules}
use Rattle.std.specs.Arc.{arc_value}
use Rattle.std.specs.Prelude.{slice_set}
use Rattle.okws_outer.specs.Printing.{printer}
use Rattle.okws_plan.specs.declared.script.Line.TheVariants as line
use Rattle.monitor_model.specs.Cell.{incarnation}
use Rattle.monitor_model.specs.Stage.{Stand, stand}
use Rattle.okws_play.specs.Cells.{AreBytes}
use Rattle.okws_play.specs.Printed.{DoesAs}
use Rattle.okws_play.proofs.Changing.{fed_run, fed_state}
use Rattle.okws_play.proofs.Going.{may_feed, bytes_on, bytes_none}
use Rattle.okws_play.proofs.Printing.{by_err}
use Rattle.okws_play.proofs.Running.{at_cell, run_of}
use Rattle.okws_play.proofs.play.run.Play.bytes.Goals as goal

pub invariant_of-self-2 : goal.invariant_of-self-2
invariant_of-self-2 g c =
    let at = at_cell _ _ _ _ _ c.args.self.now c.args.service c.index_mut-cell.result.now c.self.invariant c.self.view_is c.requires.service c.index_mut-cell.ensures.value in
    let fits : AreBytes c.args.bytes.now = λ i. omega (arith, c.type_inv.bytes i) in
    fed_run _ _ _ _ _ _ c.args.service c.index_mut-cell.result.now c.feed.new.self c.args.bytes.now at fits c.in_ok-feed.ensures.ok

pub returns : goal.returns
returns g c =
    let at = at_cell _ _ _ _ _ c.args.self.now c.args.service c.index_mut-cell.result.now c.self.invariant c.self.view_is c.requires.service c.index_mut-cell.ensures.value in
    bytes_on c.go_on.result c.args.self.now _ c.go_on.new.self c.args.service c.args.bytes.now _ _ (fed_state _ _ _ _ _ _ c.args.service c.index_mut-cell.result.now c.feed.new.self c.args.bytes.now at (subst (λ (t : Stand). incarnation t.past ≢ 0) (sym at.stand_is) (may_feed (incarnation (stand c.args.self.now.stage c.args.service).past) (stand c.args.self.now.stage c.args.service).has_ended c.requires.may)) c.in_ok-feed.ensures.ok) c.go_on.ensures

pub returns-in_err-feed : goal.returns-in_err-feed
returns-in_err-feed g c =
    let at = at_cell _ _ _ _ _ c.args.self.now c.args.service c.index_mut-cell.result.now c.self.invariant c.self.view_is c.requires.service c.index_mut-cell.ensures.value in
    let fits : AreBytes c.args.bytes.now = λ i. omega (arith, c.type_inv.bytes i) in
    by_err c.from_residual.result (λ r. DoesAs (line.Bytes c.args.service c.args.bytes.now) c.args.self.now (printer g.O.Sink.given g.O.Sink.faults c.args.out.now c.args.stopped.now) (printer g.O.Sink.given g.O.Sink.faults c.args.out.now c.args.stopped.now) r (run_of (arc_value c.self.inside.config) c.self.inside.seed c.self.inside.columns.seen (slice_set c.self.inside.cells.items c.args.service c.feed.new.self) c.self.inside.requests.items)) c.from_residual.ensures.0
    (λ e. bytes_none e c.args.self.now (run_of (arc_value c.self.inside.config) c.self.inside.seed c.self.inside.columns.seen (slice_set c.self.inside.cells.items c.args.service c.feed.new.self) c.self.inside.requests.items) c.args.service c.args.bytes.now _ at.inside at.bytes fits)
