use Rattle.okws_outer.proofs.Printed.{then_on, whole_front, front_before, front_then}
use Rattle.okws_play.proofs.Launching.{boot_prints}
use Rattle.okws_play.proofs.Printing.{same_on, same_front, front_err}
use Rattle.okws_play.proofs.play.run.Play.boot.Goals as goal

pub returns-clause-printed : goal.returns-clause-printed
returns-clause-printed g c =
    let first = c.in_ok-supersede.ensures in
    let then = c.in_ok-retire.ensures in
    same_on _ _ _ _ (boot_prints c.args.self.now c.supersede.new.self c.retire.new.self c.args.service _ _ first.state first.launcher then.state then.launcher)
    (then_on _ _ _ _ _ first.printed c.in_ok-boot_freshly.ensures.printed)

pub returns-in_err-supersede-clause-printed : goal.returns-in_err-supersede-clause-printed
returns-in_err-supersede-clause-printed g c = front_err _ _ _ _ c.from_residual.ensures.0 (front_before _ _ _ _ c.in_err-supersede.ensures.printed)

pub returns-in_err-retire-clause-printed : goal.returns-in_err-retire-clause-printed
returns-in_err-retire-clause-printed g c = front_err _ _ _ _ c.from_residual-in_err-retire.ensures.0 (whole_front _ _ _ _ c.in_ok-supersede.ensures.printed)

pub returns-in_err-boot_freshly-clause-printed : goal.returns-in_err-boot_freshly-clause-printed
returns-in_err-boot_freshly-clause-printed g c =
    let first = c.in_ok-supersede.ensures in
    let then = c.in_ok-retire.ensures in
    front_err _ _ _ _ c.from_residual-in_err-boot_freshly.ensures.0
    (same_front _ _ _ _ (boot_prints c.args.self.now c.supersede.new.self c.retire.new.self c.args.service _ _ first.state first.launcher then.state then.launcher)
    (front_then _ _ _ _ _ first.printed c.in_err-boot_freshly.ensures.printed))
