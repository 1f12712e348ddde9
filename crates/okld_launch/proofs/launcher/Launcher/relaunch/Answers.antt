use Rattle.std.proofs.Common.{sym, ap, subst}
use Rattle.okws_plan.specs.declared.event.LauncherEvent.TheVariants as event
use Rattle.launch_crew.specs.Coming.{came_up}
use Rattle.launch_journal.specs.Launches.{entered}
use Rattle.monitor_model.specs.Launcher.{begun}
use Rattle.okld_launch.specs.Launchers.{LauncherIs, MayLaunch}
use Rattle.okld_launch.proofs.Causing.{asked_follows}
use Rattle.okld_launch.proofs.Opening.{opens}
use Rattle.okld_launch.proofs.OnWay.{closed_entered, closed_roomy}
use Rattle.okld_launch.proofs.launcher.Launcher.relaunch.Goals as goal

pub returns-clause-enters : goal.returns-clause-enters
returns-clause-enters g c = opens (event.Asked c.args.service) c.ask-asked.result c.args.self.journal.holder c.args.self.journal.past c.make_room.new.self c.ask-asked.new.self c.go_on.result.2 c.go_on.result.0.journal.past
    (ap (λ (l : LauncherIs). l.journal.holder) c.make_room.ensures.same) (ap (λ (l : LauncherIs). l.journal.past) c.make_room.ensures.same) c.ask-asked.ensures.is c.ask-asked.ensures.entered c.go_on.ensures.enters

pub go_on-requires-clause-cause : goal.go_on-requires-clause-cause
go_on-requires-clause-cause g c =
    let m = c.make_room.new.self in
    let s = c.args.service in
    subst (MayLaunch s) (sym c.ask-asked.ensures.entered) (asked_follows (came_up m.crew.sat) (entered m.journal (event.Asked s)).past m.journal.past m.journal.holder s (begun m.journal.past s))

pub returns-then-is_err-clause-whole : goal.returns-then-is_err-clause-whole
returns-then-is_err-clause-whole g c = λ up ended whole. closed_roomy g.N.Numbered.site g.N.Numbered.run_seed g.N.Staffed.children up ended c.args.self c.make_room.new.self c.make_room.new.self.journal.room c.make_room.ensures.same whole

pub returns-clause-whole : goal.returns-clause-whole
returns-clause-whole g c = λ up ended whole.
    let roomy = closed_roomy g.N.Numbered.site g.N.Numbered.run_seed g.N.Staffed.children up ended c.args.self c.make_room.new.self c.make_room.new.self.journal.room c.make_room.ensures.same whole in
    c.go_on.ensures.whole up ended (closed_entered g.N.Numbered.site g.N.Numbered.run_seed g.N.Staffed.children up ended c.make_room.new.self c.ask-asked.new.self (event.Asked c.args.service) tt c.ask-asked.ensures.entered roomy)
