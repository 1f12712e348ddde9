use Rattle.std.proofs.Common.{refl, sym, subst}
use Rattle.okws_base.specs.Turns.{AddsBy}
use Rattle.okws_plan.specs.declared.event.ProxyEvent.TheVariants as event
use Rattle.db_proxy.specs.Seen.{Seen as Proxy, entered}
use Rattle.named_columns.specs.Asked.{IsInstalledAt}
use Rattle.named_columns.specs.Held.{HeldProxy}
use Rattle.named_columns.specs.Launched.{by_entry}
use Rattle.named_columns.specs.Kept.{IsProxy}
use Rattle.named_columns.proofs.Adds.{adds_none, adds_one}
use Rattle.named_columns.proofs.Keeps.{on_both, proxy_opened}
use Rattle.named_columns.proofs.proxy.SiteProxy.open_session.Goals as goal

pub invariant_of-self : goal.invariant_of-self
invariant_of-self g c = on_both (λ (z : Proxy). IsProxy g.N.Numbered.site g.N.Numbered.run_seed g.N.Numbered.launcher g.N.Backed.tells g.N.Backed.steady g.N.Backed.keeper_faults z) c.open_session.result c.self.inside.proxy (entered c.self.inside.proxy (event.Open c.args.service c.args.incarnation c.args.shown)) c.open_session.new.self c.open_session.ensures.ok c.open_session.ensures.err c.self.invariant (proxy_opened g.N.Numbered.site g.N.Numbered.run_seed g.N.Numbered.launcher g.N.Backed.tells g.N.Backed.steady g.N.Backed.keeper_faults c.self.inside.proxy c.args.service c.args.incarnation c.args.shown c.self.invariant
    (subst (λ (v : HeldProxy). IsInstalledAt g.N.Numbered.site v.number v.past c.args.service c.args.incarnation) (sym c.self.view_is) c.requires.installed))

pub returns-clause-adds : goal.returns-clause-adds
returns-clause-adds g c = rw (← c.self.view_is) (on_both (λ (z : Proxy). AddsBy by_entry c.self.inside.proxy.holder c.self.inside.proxy.past z.past) c.open_session.result c.self.inside.proxy (entered c.self.inside.proxy (event.Open c.args.service c.args.incarnation c.args.shown)) c.open_session.new.self c.open_session.ensures.ok c.open_session.ensures.err
    (adds_none c.self.inside.proxy.holder c.self.inside.proxy.past c.self.inside.proxy.past refl) (adds_one c.self.inside.proxy.holder (event.Open c.args.service c.args.incarnation c.args.shown) c.self.inside.proxy.past (entered c.self.inside.proxy (event.Open c.args.service c.args.incarnation c.args.shown)).past refl))
