use Rattle.okws_outer.specs.Printing.{printer}
use Rattle.okws_play.specs.Printed.{RunsAs}
use Rattle.monitor_model.specs.Script.{IsReady}
use Rattle.monitor_model.specs.Stage.{stand}
use Rattle.okws_play.proofs.Going.{gone_none, gone_more, gone_off, gone_stopped, not_ready}
use Rattle.okws_play.proofs.Printing.{by_err}
use Rattle.okws_play.proofs.play.run.Play.go_on.Goals as goal

pub ready-init : goal.ready-init
ready-init g c = gone_none c.args.service c.args.self.now _

pub step-requires-clause-ready : goal.step-requires-clause-ready
step-requires-clause-ready g c = (c.is_ready.ensures.0 c.ready-test.true).1

pub ready-preserved : goal.ready-preserved
ready-preserved g c = gone_more _ c.args.service c.args.self.now c.ready.self c.step.new.self _ _ _ c.ready.invariant c.in_ok-step.ensures.steps

pub returns : goal.returns
returns g c = gone_off _ c.args.service c.args.self.now c.ready.self _ _ c.ready.invariant (not_ready c.is_ready.result (stand c.ready.self.stage c.args.service).open_dialog (IsReady (stand c.ready.self.stage c.args.service)) c.is_ready.ensures c.ready-test.false)

pub returns-in_err-step : goal.returns-in_err-step
returns-in_err-step g c =
    by_err c.from_residual.result (λ r. RunsAs c.args.service c.args.self.now (printer g.O.Sink.given g.O.Sink.faults c.args.out.now c.args.stopped.now) (printer g.O.Sink.given g.O.Sink.faults c.step.new.out c.step.new.stopped) r c.step.new.self) c.from_residual.ensures.0
    (λ e. gone_stopped e c.args.service c.args.self.now c.ready.self c.step.new.self c.step.new.self _ _ _ c.ready.invariant c.in_err-step.ensures.steps)
