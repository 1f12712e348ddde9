use Rattle.std.proofs.Common.{ap}
use Rattle.okws_plan.specs.declared.event.OkdEvent.TheVariants as event
use Rattle.okd_dispatch.specs.Seen.{Seen as Okd}
use Rattle.named_columns.proofs.Adds.{adds_one}
use Rattle.site_columns.proofs.Ways.{way_declared}
use Rattle.named_columns.proofs.okd.SiteOkd.accept.Goals as goal

pub returns-clause-goes : goal.returns-clause-goes
returns-clause-goes g c = rw (c.in_ok-way.ensures.verdict, c.self.invariant.config_is) (way_declared g.N.Numbered.site c.self.inside.okd.past c.args.path c.self.invariant.rules.owners c.self.invariant.numbered)

pub returns-clause-adds : goal.returns-clause-adds
returns-clause-adds g c = rw (← c.self.view_is) (adds_one c.self.inside.okd.holder (event.Accept c.args.path) c.self.inside.okd.past c.accept.new.self.past (ap (λ (z : Okd). z.past) c.in_ok-way.ensures.ok))
