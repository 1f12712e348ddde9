use Rattle.std.proofs.Common.{ap}
use Rattle.okws_plan.specs.declared.event.OkdEvent.TheVariants as event
use Rattle.okd_dispatch.specs.Seen.{Seen as Okd}
use Rattle.named_columns.proofs.Adds.{adds_one}
use Rattle.named_columns.proofs.okd.SiteOkd.up.Goals as goal

pub returns-clause-adds : goal.returns-clause-adds
returns-clause-adds g c = rw (← c.self.view_is) (adds_one c.self.inside.okd.holder (event.Up c.args.service c.args.incarnation) c.self.inside.okd.past c.up.new.self.past (ap (λ (z : Okd). z.past) c.in_ok-up.ensures.ok))
