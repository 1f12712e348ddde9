use Rattle.std.proofs.Common.{ap}
use Rattle.okws_plan.specs.declared.event.PubdEvent.TheVariants as event
use Rattle.pubd_core.specs.Seen.{Seen as Pubd}
use Rattle.named_columns.proofs.Adds.{adds_one}
use Rattle.named_columns.proofs.pubd.SitePubd.publish_at.Goals as goal

pub returns-clause-adds : goal.returns-clause-adds
returns-clause-adds g c = rw (← c.self.view_is) (adds_one c.self.inside.pubd.holder (event.Publish c.args.template c.args.content) c.self.inside.pubd.past c.publish_at.new.self.past (ap (λ (z : Pubd). z.past) c.in_ok-publish_at.ensures.ok))
