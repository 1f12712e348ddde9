use Rattle.std.proofs.Common.{refl}
use Rattle.okws_base.specs.Turns.{AddsBy}
use Rattle.okws_plan.specs.declared.event.PubdEvent.{PubdEvent}
use Rattle.okws_plan.specs.declared.event.PubdEvent.TheVariants as event
use Rattle.monitor_model.specs.Installed.{HasStood}
use Rattle.monitor_model.specs.Standing.{pubd_grant}
use Rattle.named_columns.specs.Held.{Held}
use Rattle.pubd_core.specs.Seen.{Seen as Pubd, entered}
use Rattle.named_columns.specs.Launched.{by_entry}
use Rattle.named_columns.specs.Kept.{IsPubd}
use Rattle.std.proofs.Common.{subst, sym}
use Rattle.std.proofs.lemmas.Result.{IfOk-weaker}
use Rattle.service_cell.specs.Asking.{IsShortGot}
use Rattle.site_columns.proofs.Short.{get_short}
use Rattle.named_columns.proofs.Adds.{adds_none, adds_one}
use Rattle.named_columns.proofs.Keeps.{on_both, pubd_got}
use Rattle.named_columns.proofs.pubd.SitePubd.get.Goals as goal

pub invariant_of-self : goal.invariant_of-self
invariant_of-self g c = on_both (λ (z : Pubd). IsPubd g.N.Numbered.site g.N.Numbered.launcher z c.self.inside.published) c.get.result c.self.inside.pubd (entered c.self.inside.pubd (event.Get c.args.service c.args.incarnation c.args.name)) c.get.new.self c.get.ensures.ok c.get.ensures.err c.self.invariant (pubd_got g.N.Numbered.site g.N.Numbered.launcher c.self.inside.pubd c.self.inside.published c.args.service c.args.incarnation c.args.name c.self.invariant
    (subst (λ (v : Held PubdEvent). HasStood pubd_grant v.past c.args.service c.args.incarnation) (sym c.self.view_is) c.requires.installed))

pub returns-clause-adds : goal.returns-clause-adds
returns-clause-adds g c = rw (← c.self.view_is) (on_both (λ (z : Pubd). AddsBy by_entry c.self.inside.pubd.holder c.self.inside.pubd.past z.past) c.get.result c.self.inside.pubd (entered c.self.inside.pubd (event.Get c.args.service c.args.incarnation c.args.name)) c.get.new.self c.get.ensures.ok c.get.ensures.err
    (adds_none c.self.inside.pubd.holder c.self.inside.pubd.past c.self.inside.pubd.past refl) (adds_one c.self.inside.pubd.holder (event.Get c.args.service c.args.incarnation c.args.name) c.self.inside.pubd.past (entered c.self.inside.pubd (event.Get c.args.service c.args.incarnation c.args.name)).past refl))

pub returns-clause-short : goal.returns-clause-short
returns-clause-short g c =
    IfOk-weaker c.get.result _ _
    (λ v is. subst IsShortGot (sym is) (get_short c.self.inside.pubd.config c.self.inside.pubd.past c.args.service c.args.incarnation c.args.name c.self.invariant.short))
    c.get.ensures.verdict
