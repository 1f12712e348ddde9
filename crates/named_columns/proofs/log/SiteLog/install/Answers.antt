use Rattle.std.proofs.Common.{◌∙◌, ap, refl}
use Rattle.okws_base.specs.Turns.{AddsBy}
use Rattle.okws_plan.specs.declared.event.LogEvent.TheVariants as event
use Rattle.log_daemon.specs.Seen.{Seen as Log, entered}
use Rattle.named_columns.specs.Held.{HeldLog}
use Rattle.named_columns.specs.Launched.{by_entry}
use Rattle.named_columns.specs.Kept.{IsLog}
use Rattle.named_columns.proofs.Adds.{adds_none, adds_one}
use Rattle.named_columns.proofs.Keeps.{on_both, log_installed}
use Rattle.named_columns.proofs.log.SiteLog.install.Goals as goal

pub invariant_of-self : goal.invariant_of-self
invariant_of-self g c = on_both (λ (z : Log). IsLog g.N.Numbered.site g.N.Numbered.launcher g.N.Backed.sink_faults z c.self.inside.written) c.install.result c.self.inside.daemon (entered c.self.inside.daemon (event.Install c.args.service c.args.incarnation)) c.install.new.self c.install.ensures.ok c.install.ensures.err c.self.invariant (log_installed g.N.Numbered.site g.N.Numbered.launcher g.N.Backed.sink_faults c.self.inside.daemon c.self.inside.written c.args.service c.args.incarnation c.self.invariant (ap (λ (v : HeldLog). v.holder) c.self.view_is ∙ c.requires.launcher))

pub returns-clause-adds : goal.returns-clause-adds
returns-clause-adds g c = rw (← c.self.view_is) (on_both (λ (z : Log). AddsBy by_entry c.self.inside.daemon.holder c.self.inside.daemon.past z.past) c.install.result c.self.inside.daemon (entered c.self.inside.daemon (event.Install c.args.service c.args.incarnation)) c.install.new.self c.install.ensures.ok c.install.ensures.err
    (adds_none c.self.inside.daemon.holder c.self.inside.daemon.past c.self.inside.daemon.past refl) (adds_one c.self.inside.daemon.holder (event.Install c.args.service c.args.incarnation) c.self.inside.daemon.past (entered c.self.inside.daemon (event.Install c.args.service c.args.incarnation)).past refl))
