use Rattle.launch_crew.proofs.Acting.{installs_granted, installs_passed}
use Rattle.launch_crew.proofs.recorder.Recorder.install_if_granted.Goals as goal

pub returns-then-may_call_at : goal.returns-then-may_call_at
returns-then-may_call_at g c = installs_granted g.N.Numbered.site g.N.Numbered.run_seed c.args.proxy c.args.service c.args.incarnation c.install_at_proxy.result c.args.self.now c.install_at_proxy.new.self (cc) c.install_at_proxy.ensures

pub returns-else-may_call_at : goal.returns-else-may_call_at
returns-else-may_call_at g c = installs_passed g.N.Numbered.site g.N.Numbered.run_seed c.args.proxy c.args.service c.args.incarnation tt c.args.self.now (cc)
