use Rattle.okws_outer.proofs.Printed.{no_front, then_on, front_before, front_then}
use Rattle.okws_play.proofs.Launching.{relaunch_prints, taken_prints}
use Rattle.okws_play.proofs.Printing.{same_on, same_front, front_err}
use Rattle.okws_play.proofs.play.run.Play.relaunch.Goals as goal

pub returns-clause-printed : goal.returns-clause-printed
returns-clause-printed g c =
    let taken = c.in_ok-take_down.ensures in
    same_on _ _ _ _ (relaunch_prints c.args.self.now c.begin.new.self c.take_down.new.self c.args.service _ _ c.in_ok-begin.ensures.state taken.state taken.closed taken.launcher)
    (then_on _ _ _ _ _ taken.printed c.in_ok-launch_rest.ensures.printed)

pub returns-in_err-take_down-clause-printed : goal.returns-in_err-take_down-clause-printed
returns-in_err-take_down-clause-printed g c =
    front_err _ _ _ _ c.from_residual-in_err-take_down.ensures.0
    (same_front _ _ _ _ (taken_prints c.args.self.now c.begin.new.self c.args.service _ c.in_ok-begin.ensures.state) (front_before _ _ _ _ c.in_err-take_down.ensures.printed))

pub returns-in_err-launch_rest-clause-printed : goal.returns-in_err-launch_rest-clause-printed
returns-in_err-launch_rest-clause-printed g c =
    let taken = c.in_ok-take_down.ensures in
    front_err _ _ _ _ c.from_residual-in_err-launch_rest.ensures.0
    (same_front _ _ _ _ (relaunch_prints c.args.self.now c.begin.new.self c.take_down.new.self c.args.service _ _ c.in_ok-begin.ensures.state taken.state taken.closed taken.launcher)
    (front_then _ _ _ _ _ taken.printed c.in_err-launch_rest.ensures.printed))

pub returns-in_err-begin-clause-printed : goal.returns-in_err-begin-clause-printed
returns-in_err-begin-clause-printed g c = front_err _ _ _ _ c.from_residual.ensures.0 (no_front _ _)
