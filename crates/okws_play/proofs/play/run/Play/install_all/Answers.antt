use Rattle.okws_play.proofs.Launching.{all_installed, all_keeps}
use Rattle.okws_play.proofs.play.run.Play.install_all.Goals as goal

pub returns-clause-state : goal.returns-clause-state
returns-clause-state c = all_installed _ _ _ _ _ c.in_ok-install_at_proxies.ensures.state c.in_ok-install.ensures c.in_ok-install-2.ensures

pub returns-clause-cells : goal.returns-clause-cells
returns-clause-cells c = all_keeps c.args.self.now _ _ _ _ c.in_ok-install_at_proxies.ensures.only c.in_ok-install.ensures c.in_ok-install-2.ensures
