use Rattle.std.proofs.Common.{◌∙◌, ap, refl}
use Rattle.okws_base.specs.Turns.{AddsBy}
use Rattle.okws_plan.specs.declared.event.PubdEvent.{PubdEvent}
use Rattle.okws_plan.specs.declared.event.PubdEvent.TheVariants as event
use Rattle.pubd_core.specs.Seen.{Seen as Pubd, entered}
use Rattle.named_columns.specs.Held.{Held}
use Rattle.named_columns.specs.Launched.{by_entry}
use Rattle.named_columns.specs.Kept.{IsPubd}
use Rattle.named_columns.proofs.Adds.{adds_none, adds_one}
use Rattle.named_columns.proofs.Keeps.{on_both, pubd_launched}
use Rattle.named_columns.proofs.pubd.SitePubd.install.Goals as goal

pub invariant_of-self : goal.invariant_of-self
invariant_of-self g c = on_both (λ (z : Pubd). IsPubd g.N.Numbered.site g.N.Numbered.launcher z c.self.inside.published) c.install.result c.self.inside.pubd (entered c.self.inside.pubd (event.Install c.args.service c.args.incarnation)) c.install.new.self c.install.ensures.ok c.install.ensures.err c.self.invariant (pubd_launched g.N.Numbered.site g.N.Numbered.launcher c.self.inside.pubd c.self.inside.published c.args.service c.args.incarnation c.self.invariant (ap (λ (v : Held PubdEvent). v.holder) c.self.view_is ∙ c.requires.launcher))

pub returns-clause-adds : goal.returns-clause-adds
returns-clause-adds g c = rw (← c.self.view_is) (on_both (λ (z : Pubd). AddsBy by_entry c.self.inside.pubd.holder c.self.inside.pubd.past z.past) c.install.result c.self.inside.pubd (entered c.self.inside.pubd (event.Install c.args.service c.args.incarnation)) c.install.new.self c.install.ensures.ok c.install.ensures.err
    (adds_none c.self.inside.pubd.holder c.self.inside.pubd.past c.self.inside.pubd.past refl) (adds_one c.self.inside.pubd.holder (event.Install c.args.service c.args.incarnation) c.self.inside.pubd.past (entered c.self.inside.pubd (event.Install c.args.service c.args.incarnation)).past refl))
