use Rattle.std.proofs.Common.{ap}
use Rattle.okws_plan.specs.declared.event.LogEvent.TheVariants as event
use Rattle.log_daemon.specs.Seen.{Seen as Log}
use Rattle.named_columns.proofs.Adds.{adds_one}
use Rattle.named_columns.proofs.log.SiteLog.log.Goals as goal

pub returns-clause-adds : goal.returns-clause-adds
returns-clause-adds g c = rw (← c.self.view_is) (adds_one c.self.inside.daemon.holder (event.Log c.args.service c.args.incarnation c.args.text) c.self.inside.daemon.past c.log.new.self.past (ap (λ (z : Log). z.past) c.in_ok-noted.ensures.ok))
