use Rattle.okws_outer.proofs.Printed.{no_front}
use Rattle.okws_play.proofs.Launching.{launch_prints}
use Rattle.okws_play.proofs.Printing.{all_front, same_on, same_front, front_err}
use Rattle.okws_play.proofs.play.run.Play.launch_rest.Goals as goal

pub returns-clause-printed : goal.returns-clause-printed
returns-clause-printed g c =
    same_on _ _ _ _ (launch_prints c.args.self.now c.install_all.new.self c.args.service _ c.in_ok-install_all.ensures.state c.in_ok-install_all.ensures.cells) c.in_ok-boot.ensures.printed

pub returns-in_err-boot-clause-printed : goal.returns-in_err-boot-clause-printed
returns-in_err-boot-clause-printed g c =
    front_err _ _ _ _ c.from_residual-in_err-boot.ensures.0
    (same_front _ _ _ _ (launch_prints c.args.self.now c.install_all.new.self c.args.service _ c.in_ok-install_all.ensures.state c.in_ok-install_all.ensures.cells) c.in_err-boot.ensures.printed)

pub returns-in_err-up-clause-printed : goal.returns-in_err-up-clause-printed
returns-in_err-up-clause-printed g c =
    front_err _ _ _ _ c.from_residual-in_err-up.ensures.0
    (all_front _ _ _ (same_on _ _ _ _ (launch_prints c.args.self.now c.install_all.new.self c.args.service _ c.in_ok-install_all.ensures.state c.in_ok-install_all.ensures.cells) c.in_ok-boot.ensures.printed))

pub returns-in_err-install_all-clause-printed : goal.returns-in_err-install_all-clause-printed
returns-in_err-install_all-clause-printed g c = front_err _ _ _ _ c.from_residual.ensures.0 (no_front _ _)
