use Rattle.std.proofs.Common.{◌∙◌, ap, refl}
use Rattle.okws_base.specs.Past.{standing_by}
use Rattle.okws_base.specs.Turns.{AddsBy}
use Rattle.okws_plan.specs.declared.event.ProxyEvent.TheVariants as event
use Rattle.db_proxy.specs.Seen.{Seen as Proxy, entered}
use Rattle.monitor_model.specs.Standing.{proxy_grant}
use Rattle.named_columns.specs.Held.{HeldProxy}
use Rattle.named_columns.specs.Launched.{by_entry}
use Rattle.named_columns.specs.Kept.{IsProxy}
use Rattle.named_columns.proofs.Adds.{adds_none, adds_one}
use Rattle.named_columns.proofs.Keeps.{on_both, proxy_installed}
use Rattle.named_columns.proofs.proxy.SiteProxy.install.Goals as goal

pub invariant_of-self : goal.invariant_of-self
invariant_of-self g c = on_both (λ (z : Proxy). IsProxy g.N.Numbered.site g.N.Numbered.run_seed g.N.Numbered.launcher g.N.Backed.tells g.N.Backed.steady g.N.Backed.keeper_faults z) c.install.result c.self.inside.proxy (entered c.self.inside.proxy (event.Install c.args.service c.args.incarnation c.args.token)) c.install.new.self c.install.ensures.ok c.install.ensures.err c.self.invariant (proxy_installed g.N.Numbered.site g.N.Numbered.run_seed g.N.Numbered.launcher g.N.Backed.tells g.N.Backed.steady g.N.Backed.keeper_faults c.self.inside.proxy c.args.service c.args.incarnation c.args.token c.self.invariant (ap (λ (v : HeldProxy). v.holder) c.self.view_is ∙ c.requires.launcher)
    (ap (λ (v : HeldProxy). standing_by proxy_grant v.past c.args.service) c.self.view_is ∙ c.requires.vacant))

pub returns-clause-adds : goal.returns-clause-adds
returns-clause-adds g c = rw (← c.self.view_is) (on_both (λ (z : Proxy). AddsBy by_entry c.self.inside.proxy.holder c.self.inside.proxy.past z.past) c.install.result c.self.inside.proxy (entered c.self.inside.proxy (event.Install c.args.service c.args.incarnation c.args.token)) c.install.new.self c.install.ensures.ok c.install.ensures.err
    (adds_none c.self.inside.proxy.holder c.self.inside.proxy.past c.self.inside.proxy.past refl) (adds_one c.self.inside.proxy.holder (event.Install c.args.service c.args.incarnation c.args.token) c.self.inside.proxy.past (entered c.self.inside.proxy (event.Install c.args.service c.args.incarnation c.args.token)).past refl))
