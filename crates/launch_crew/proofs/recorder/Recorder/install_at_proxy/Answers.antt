use Rattle.std.proofs.Common.{◌≡◌, ◌<◌, ℕ, sym, subst}
use Rattle.okws_base.specs.declared.value.Token.{Token}
use Rattle.okws_plan.specs.declared.event.ProxyEvent.TheVariants as event
use Rattle.monitor_model.specs.declared.record.Own.TheVariants as own
use Rattle.monitor_model.specs.Standing.{proxy_grant}
use Rattle.token_core.specs.Token.{token_of}
use Rattle.launch_crew.specs.Acts.{InstallsAt, past_at}
use Rattle.launch_crew.specs.Recorded.{Recorded}
use Rattle.launch_crew.specs.Steps.{TurnsAt}
use Rattle.launch_crew.proofs.Acting.{proxy_installs}
use Rattle.launch_crew.proofs.Recording.{recorder}
use Rattle.launch_crew.proofs.recorder.Recorder.install_at_proxy.Goals as goal

pub invariant_of-self : goal.invariant_of-self
invariant_of-self g c =
    (proxy_installs g.N.Numbered.site g.N.Numbered.launcher c.self.inside.seats c.install_at_proxy-answer.new.self c.self.inside.cells c.self.inside.own.past c.list_if.new.list.past c.self.inside.own.room c.list_if.new.list.room c.self.invariant
    c.args.proxy (subst (λ (m : ℕ). c.args.proxy < m) (sym c.self.invariant.proxies_are) c.requires.proxy) c.requires.proxy
    c.args.service c.args.incarnation c.token-token.result c.install_at_proxy-answer.result c.is_ok.result c.is_ok.ensures.value c.install_at_proxy-answer.ensures.ok c.install_at_proxy-answer.ensures.err c.list_if.ensures.past c.list_if.ensures.room).0

pub returns : goal.returns
returns g c =
    let p = c.args.proxy in
    let s = c.args.service in
    let k = c.args.incarnation in
    let new = recorder c.install_at_proxy-answer.new.self c.self.inside.cells c.list_if.new.list.past c.list_if.new.list.room in
    let is : c.token-token.result ≡ token_of g.N.Numbered.run_seed s k p = cc in
    subst (λ (t : Token). InstallsAt proxy_grant (past_at p) (TurnsAt p) (own.Proxy p (event.Install s k t)) s k c.install_at_proxy-answer.result c.args.self.now new) is
    (subst (λ (x : Recorded). InstallsAt proxy_grant (past_at p) (TurnsAt p) (own.Proxy p (event.Install s k c.token-token.result)) s k c.install_at_proxy-answer.result x new) c.self.view_is
    (proxy_installs g.N.Numbered.site g.N.Numbered.launcher c.self.inside.seats c.install_at_proxy-answer.new.self c.self.inside.cells c.self.inside.own.past c.list_if.new.list.past c.self.inside.own.room c.list_if.new.list.room c.self.invariant
    p (subst (λ (m : ℕ). p < m) (sym c.self.invariant.proxies_are) c.requires.proxy) c.requires.proxy
    c.args.service c.args.incarnation c.token-token.result c.install_at_proxy-answer.result c.is_ok.result c.is_ok.ensures.value c.install_at_proxy-answer.ensures.ok c.install_at_proxy-answer.ensures.err c.list_if.ensures.past c.list_if.ensures.room).1)
