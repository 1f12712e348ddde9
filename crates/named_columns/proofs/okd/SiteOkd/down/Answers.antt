use Rattle.std.proofs.Common.{◌∙◌, ap, refl}
use Rattle.okws_base.specs.Turns.{AddsBy}
use Rattle.okws_plan.specs.declared.event.OkdEvent.{OkdEvent}
use Rattle.okws_plan.specs.declared.event.OkdEvent.TheVariants as event
use Rattle.okd_dispatch.specs.Seen.{Seen as Okd, entered}
use Rattle.okws_base.specs.Past.{is_just}
use Rattle.monitor_model.specs.Standing.{up_at_okd}
use Rattle.named_columns.specs.Held.{Held}
use Rattle.named_columns.specs.Launched.{by_entry}
use Rattle.named_columns.specs.Kept.{IsOkd}
use Rattle.named_columns.proofs.Adds.{adds_none, adds_one}
use Rattle.named_columns.proofs.Keeps.{on_test, okd_downed}
use Rattle.named_columns.proofs.okd.SiteOkd.down.Goals as goal

pub invariant_of-self : goal.invariant_of-self
invariant_of-self g c = on_test (λ (z : Okd). IsOkd g.N.Numbered.site g.N.Numbered.launcher z c.self.inside.accepted c.self.inside.raised) (is_just c.args.incarnation (up_at_okd c.self.inside.okd.past c.args.service)) c.self.inside.okd (entered c.self.inside.okd (event.Down c.args.service c.args.incarnation)) c.down.new.self c.down.ensures c.self.invariant (okd_downed g.N.Numbered.site g.N.Numbered.launcher c.self.inside.okd c.self.inside.accepted c.self.inside.raised c.args.service c.args.incarnation c.self.invariant (ap (λ (v : Held OkdEvent). v.holder) c.self.view_is ∙ c.requires.launcher))

pub returns-clause-adds : goal.returns-clause-adds
returns-clause-adds g c = rw (← c.self.view_is) (on_test (λ (z : Okd). AddsBy by_entry c.self.inside.okd.holder c.self.inside.okd.past z.past) (is_just c.args.incarnation (up_at_okd c.self.inside.okd.past c.args.service)) c.self.inside.okd (entered c.self.inside.okd (event.Down c.args.service c.args.incarnation)) c.down.new.self c.down.ensures
    (adds_none c.self.inside.okd.holder c.self.inside.okd.past c.self.inside.okd.past refl) (adds_one c.self.inside.okd.holder (event.Down c.args.service c.args.incarnation) c.self.inside.okd.past (entered c.self.inside.okd (event.Down c.args.service c.args.incarnation)).past refl))
