use Rattle.std.proofs.Common.{◌≡◌, ◌∙◌, ◌<◌, ◌≤◌, length, sym, ap, arith}
use Rattle.monitor_model.specs.Launcher.{begun}
use Rattle.okws_play.proofs.Launching.{same_more, done_is, install_step, install_end, only_more, later_more}
use Rattle.okws_play.proofs.play.run.Play.install_at_proxies.Goals as goal

pub install_if_granted-requires-clause-service : goal.install_if_granted-requires-clause-service
install_if_granted-requires-clause-service c =
    let same : length c.loop-i.self.config.services ≡ length c.args.self.now.config.services = ap (λ v. length v.config.services) c.loop-i.invariant.same in
    omega (arith, same, c.requires.service)

pub install_if_granted-requires-clause-proxy : goal.install_if_granted-requires-clause-proxy
install_if_granted-requires-clause-proxy c =
    let same : length c.loop-i.self.config.proxies ≡ length c.args.self.now.config.proxies = ap (λ v. length v.config.proxies) c.loop-i.invariant.same in
    omega (arith, same, c.proxies-i-end.ensures.is, c.loop-i-test.true)

pub install_if_granted-requires-clause-first : goal.install_if_granted-requires-clause-first
install_if_granted-requires-clause-first c =
    let same : begun c.loop-i.self.stage.seen.launcher c.args.service ≡ begun c.args.self.now.stage.seen.launcher c.args.service = ap (λ v. begun v c.args.service) c.loop-i.invariant.only.launcher_is in
    omega (arith, same, c.requires.may.first)

pub install_if_granted-requires-clause-later : goal.install_if_granted-requires-clause-later
install_if_granted-requires-clause-later c = c.loop-i.invariant.later c.loop-i.i (omega arith)

pub loop-i-preserved : goal.loop-i-preserved
loop-i-preserved c =
    let before = c.loop-i.invariant in
    let made = c.in_ok-install_if_granted.ensures in
    let below : c.loop-i.i < length c.args.self.now.config.proxies = omega (arith, c.proxies-i-end.ensures.is, c.loop-i-test.true) in record {
      same = same_more c.args.self.now _ _ _ before.same made.state;
      state = install_step c.args.self.now _ _ _ _ _ before.same made.state below before.state;
      only = only_more _ _ _ _ _ before.only made.only;
      later = later_more _ _ _ _ before.later made.only;
    }

pub returns-clause-state : goal.returns-clause-state
returns-clause-state c =
    let end : length c.args.self.now.config.proxies ≤ c.loop-i.i = omega (arith, c.proxies-i-end.ensures.is, c.loop-i-test.false) in
    done_is c.args.self.now _ _ c.loop-i.invariant.same (sym (install_end c.args.self.now.config c.args.self.now.seed c.args.service c.loop-i.i _ c.loop-i.self.stage end) ∙ c.loop-i.invariant.state)
