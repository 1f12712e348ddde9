use Rattle.std.proofs.Common.{◌∙◌, ap, refl}
use Rattle.okws_base.specs.Turns.{AddsBy}
use Rattle.okws_plan.specs.declared.event.ProxyEvent.TheVariants as event
use Rattle.db_proxy.specs.Seen.{Seen as Proxy, entered}
use Rattle.monitor_model.specs.Standing.{live_at_proxy}
use Rattle.named_columns.specs.Held.{HeldProxy}
use Rattle.named_columns.specs.Launched.{by_entry}
use Rattle.named_columns.specs.Kept.{IsProxy}
use Rattle.named_columns.proofs.Adds.{adds_none, adds_one}
use Rattle.named_columns.proofs.Keeps.{on_test, proxy_revoked}
use Rattle.named_columns.proofs.proxy.SiteProxy.revoke.Goals as goal

pub invariant_of-self : goal.invariant_of-self
invariant_of-self g c = on_test (λ (z : Proxy). IsProxy g.N.Numbered.site g.N.Numbered.run_seed g.N.Numbered.launcher g.N.Backed.tells g.N.Backed.steady g.N.Backed.keeper_faults z) (live_at_proxy c.self.inside.proxy.past c.args.service c.args.incarnation) c.self.inside.proxy (entered c.self.inside.proxy (event.Revoke c.args.service c.args.incarnation)) c.revoke.new.self c.revoke.ensures c.self.invariant (proxy_revoked g.N.Numbered.site g.N.Numbered.run_seed g.N.Numbered.launcher g.N.Backed.tells g.N.Backed.steady g.N.Backed.keeper_faults c.self.inside.proxy c.args.service c.args.incarnation c.self.invariant (ap (λ (v : HeldProxy). v.holder) c.self.view_is ∙ c.requires.launcher))

pub returns-clause-adds : goal.returns-clause-adds
returns-clause-adds g c = rw (← c.self.view_is) (on_test (λ (z : Proxy). AddsBy by_entry c.self.inside.proxy.holder c.self.inside.proxy.past z.past) (live_at_proxy c.self.inside.proxy.past c.args.service c.args.incarnation) c.self.inside.proxy (entered c.self.inside.proxy (event.Revoke c.args.service c.args.incarnation)) c.revoke.new.self c.revoke.ensures
    (adds_none c.self.inside.proxy.holder c.self.inside.proxy.past c.self.inside.proxy.past refl) (adds_one c.self.inside.proxy.holder (event.Revoke c.args.service c.args.incarnation) c.self.inside.proxy.past (entered c.self.inside.proxy (event.Revoke c.args.service c.args.incarnation)).past refl))
