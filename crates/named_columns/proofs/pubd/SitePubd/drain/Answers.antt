use Rattle.std.proofs.Common.{refl}
use Rattle.okws_base.specs.Turns.{AddsBy}
use Rattle.okws_plan.specs.declared.event.PubdEvent.{PubdEvent}
use Rattle.okws_plan.specs.declared.event.PubdEvent.TheVariants as event
use Rattle.monitor_model.specs.Installed.{HasStood}
use Rattle.monitor_model.specs.Standing.{pubd_grant}
use Rattle.named_columns.specs.Held.{Held}
use Rattle.pubd_core.specs.Seen.{Seen as Pubd, entered}
use Rattle.named_columns.specs.Launched.{by_entry}
use Rattle.named_columns.specs.Kept.{IsPubd}
use Rattle.std.proofs.Common.{subst, sym}
use Rattle.std.proofs.lemmas.Result.{IfOk-weaker}
use Rattle.okws_base.specs.Runs.{Each}
use Rattle.okws_plan.specs.declared.configuration.Config.{Config}
use Rattle.service_cell.specs.Asking.{IsShortPush}
use Rattle.monitor_model.specs.Pubd.{drain_verdict}
use Rattle.site_columns.proofs.Short.{drain_short}
use Rattle.named_columns.proofs.Adds.{adds_none, adds_one}
use Rattle.named_columns.proofs.Keeps.{on_both, pubd_drained}
use Rattle.named_columns.proofs.pubd.SitePubd.drain.Goals as goal

pub invariant_of-self : goal.invariant_of-self
invariant_of-self g c = on_both (λ (z : Pubd). IsPubd g.N.Numbered.site g.N.Numbered.launcher z c.self.inside.published) c.drain.result c.self.inside.pubd (entered c.self.inside.pubd (event.Drain c.args.service c.args.incarnation)) c.drain.new.self c.drain.ensures.ok c.drain.ensures.err c.self.invariant (pubd_drained g.N.Numbered.site g.N.Numbered.launcher c.self.inside.pubd c.self.inside.published c.args.service c.args.incarnation c.self.invariant
    (subst (λ (v : Held PubdEvent). HasStood pubd_grant v.past c.args.service c.args.incarnation) (sym c.self.view_is) c.requires.installed))

pub returns-clause-adds : goal.returns-clause-adds
returns-clause-adds g c = rw (← c.self.view_is) (on_both (λ (z : Pubd). AddsBy by_entry c.self.inside.pubd.holder c.self.inside.pubd.past z.past) c.drain.result c.self.inside.pubd (entered c.self.inside.pubd (event.Drain c.args.service c.args.incarnation)) c.drain.new.self c.drain.ensures.ok c.drain.ensures.err
    (adds_none c.self.inside.pubd.holder c.self.inside.pubd.past c.self.inside.pubd.past refl) (adds_one c.self.inside.pubd.holder (event.Drain c.args.service c.args.incarnation) c.self.inside.pubd.past (entered c.self.inside.pubd (event.Drain c.args.service c.args.incarnation)).past refl))

pub returns-clause-short : goal.returns-clause-short
returns-clause-short g c =
    IfOk-weaker c.drain.result _ _
    (λ v is. subst (λ x. Each IsShortPush x) (sym is) (subst (λ (D : Config). Each IsShortPush (drain_verdict D c.self.inside.pubd.past c.args.service c.args.incarnation)) (sym c.self.invariant.config_is)
    (drain_short g.N.Numbered.site c.self.invariant.rules.names c.self.inside.pubd.past c.args.service c.args.incarnation c.self.invariant.short)))
    c.drain.ensures.verdict
