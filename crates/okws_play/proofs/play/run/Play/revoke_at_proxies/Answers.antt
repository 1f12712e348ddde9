use Rattle.std.proofs.Common.{◌≡◌, ◌∙◌, ◌<◌, ◌≤◌, length, sym, ap, arith}
use Rattle.okws_play.proofs.Launching.{same_more, done_is, revoke_step, revoke_end, keeps_more}
use Rattle.okws_play.proofs.play.run.Play.revoke_at_proxies.Goals as goal

pub revoke-requires-clause-service : goal.revoke-requires-clause-service
revoke-requires-clause-service c =
    let same : length c.loop-i.self.config.services ≡ length c.args.self.now.config.services = ap (λ v. length v.config.services) c.loop-i.invariant.same in
    omega (arith, same, c.requires.service)

pub revoke-requires-clause-place : goal.revoke-requires-clause-place
revoke-requires-clause-place c =
    let same : length c.loop-i.self.config.proxies ≡ length c.args.self.now.config.proxies = ap (λ v. length v.config.proxies) c.loop-i.invariant.same in
    omega (arith, same, c.proxies-i-end.ensures.is, c.loop-i-test.true)

pub loop-i-preserved : goal.loop-i-preserved
loop-i-preserved c =
    let before = c.loop-i.invariant in
    let made = c.in_ok-revoke.ensures in
    let below : c.loop-i.i < length c.args.self.now.config.proxies = omega (arith, c.proxies-i-end.ensures.is, c.loop-i-test.true) in record {
      same = same_more c.args.self.now _ _ _ before.same made.state;
      state = revoke_step c.args.self.now _ _ _ _ _ made.state below before.state;
      cells = keeps_more _ _ _ before.cells made.cells;
      may = made.may before.may;
    }

pub returns-clause-state : goal.returns-clause-state
returns-clause-state c =
    let end : length c.args.self.now.config.proxies ≤ c.loop-i.i = omega (arith, c.proxies-i-end.ensures.is, c.loop-i-test.false) in
    done_is c.args.self.now _ _ c.loop-i.invariant.same (sym (revoke_end c.args.service c.loop-i.i _ c.loop-i.self.stage end) ∙ c.loop-i.invariant.state)
