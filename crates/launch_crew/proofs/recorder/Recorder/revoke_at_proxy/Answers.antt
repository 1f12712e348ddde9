use Rattle.std.proofs.Common.{◌<◌, ℕ, refl, sym, subst, arith}
use Rattle.okws_plan.specs.declared.event.ProxyEvent.TheVariants as event
use Rattle.monitor_model.specs.Standing.{proxy_grant}
use Rattle.launch_crew.specs.Acts.{RevokesAt, past_at}
use Rattle.launch_crew.specs.Listed.{with_revoke_at}
use Rattle.launch_crew.specs.Recorded.{Recorded}
use Rattle.launch_crew.specs.Steps.{TurnsAt}
use Rattle.launch_crew.proofs.Acting.{proxy_revokes, proxy_unrevoked}
use Rattle.launch_crew.proofs.Recording.{proxy_entered, proxy_seen, recorder}
use Rattle.launch_crew.proofs.recorder.Recorder.revoke_at_proxy.Goals as goal

pub invariant_of-self : goal.invariant_of-self
invariant_of-self g c =
    let h = c.in-Some.ensures in
    proxy_entered g.N.Numbered.site g.N.Numbered.launcher c.self.inside.seats c.revoke_at_proxy.new.self c.self.inside.cells c.self.inside.own.past c.enter.new.self.past c.self.inside.own.room c.enter.new.self.room c.self.invariant
    c.args.proxy (event.Revoke c.args.service c.in-Some.incarnation) h.0 h.1 c.requires.proxy refl c.enter.ensures.past h.3

pub invariant_of-self-in_default : goal.invariant_of-self-in_default
invariant_of-self-in_default g c =
    let h = c.in_default.ensures in
    proxy_seen g.N.Numbered.site g.N.Numbered.launcher c.self.inside.seats c.revoke_at_proxy.new.self c.self.inside.cells c.self.inside.own.past c.self.inside.own.room c.self.inside.own.room c.self.invariant c.args.proxy h.0 h.1 c.requires.proxy h.3

pub returns-in-Some : goal.returns-in-Some
returns-in-Some g c =
    let h = c.in-Some.ensures in
    let p = c.args.proxy in
    let s = c.args.service in
    subst (λ (x : Recorded). RevokesAt proxy_grant (past_at p) (TurnsAt p) (with_revoke_at s p) s x (recorder c.revoke_at_proxy.new.self c.self.inside.cells c.enter.new.self.past c.enter.new.self.room)) c.self.view_is
    (proxy_revokes g.N.Numbered.site g.N.Numbered.launcher c.self.inside.seats c.revoke_at_proxy.new.self c.self.inside.cells c.self.inside.own.past c.enter.new.self.past c.self.inside.own.room c.enter.new.self.room c.self.invariant
    p (subst (λ (m : ℕ). p < m) (sym c.self.invariant.proxies_are) c.requires.proxy) c.requires.proxy s c.in-Some.incarnation h.0 h.1 h.2 h.3 c.enter.ensures.past (omega (arith, c.enter.ensures.room)))

pub returns-in_default : goal.returns-in_default
returns-in_default g c =
    let h = c.in_default.ensures in
    let p = c.args.proxy in
    let s = c.args.service in
    subst (λ (x : Recorded). RevokesAt proxy_grant (past_at p) (TurnsAt p) (with_revoke_at s p) s x (recorder c.revoke_at_proxy.new.self c.self.inside.cells c.self.inside.own.past c.self.inside.own.room)) c.self.view_is
    (proxy_unrevoked g.N.Numbered.site g.N.Numbered.launcher c.self.inside.seats c.revoke_at_proxy.new.self c.self.inside.cells c.self.inside.own.past c.self.inside.own.past c.self.inside.own.room c.self.inside.own.room c.self.invariant
    p (subst (λ (m : ℕ). p < m) (sym c.self.invariant.proxies_are) c.requires.proxy) c.requires.proxy s h.0 h.1 h.2 h.3 refl (omega arith))
