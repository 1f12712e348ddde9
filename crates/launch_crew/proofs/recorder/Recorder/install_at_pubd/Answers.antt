use Rattle.std.proofs.Common.{subst}
use Rattle.okws_plan.specs.declared.script.Place.TheVariants.{Pubd}
use Rattle.monitor_model.specs.Launches.{install_at}
use Rattle.monitor_model.specs.Standing.{pubd_grant}
use Rattle.site_locks.specs.Sat.{Sat}
use Rattle.launch_crew.specs.Acts.{InstallsAt}
use Rattle.launch_crew.specs.Recorded.{Recorded}
use Rattle.launch_crew.specs.Steps.{OnlyPubd}
use Rattle.launch_crew.proofs.Acting.{pubd_installs}
use Rattle.launch_crew.proofs.Recording.{recorder}
use Rattle.launch_crew.proofs.recorder.Recorder.install_at_pubd.Goals as goal

pub invariant_of-self : goal.invariant_of-self
invariant_of-self g c =
    (pubd_installs g.N.Numbered.site g.N.Numbered.launcher c.self.inside.seats c.install_at_pubd-answer.new.self c.self.inside.cells c.self.inside.own.past c.list_if.new.list.past c.self.inside.own.room c.list_if.new.list.room c.self.invariant
    c.args.service c.args.incarnation c.install_at_pubd-answer.result c.is_ok.result c.is_ok.ensures.value c.install_at_pubd-answer.ensures.ok c.install_at_pubd-answer.ensures.err c.list_if.ensures.past c.list_if.ensures.room).0

pub returns : goal.returns
returns g c =
    subst (λ (x : Recorded). InstallsAt pubd_grant (λ (a : Sat). a.pubd) OnlyPubd (install_at g.N.Numbered.run_seed c.args.service c.args.incarnation Pubd) c.args.service c.args.incarnation c.install_at_pubd-answer.result x (recorder c.install_at_pubd-answer.new.self c.self.inside.cells c.list_if.new.list.past c.list_if.new.list.room)) c.self.view_is
    (pubd_installs g.N.Numbered.site g.N.Numbered.launcher c.self.inside.seats c.install_at_pubd-answer.new.self c.self.inside.cells c.self.inside.own.past c.list_if.new.list.past c.self.inside.own.room c.list_if.new.list.room c.self.invariant
    c.args.service c.args.incarnation c.install_at_pubd-answer.result c.is_ok.result c.is_ok.ensures.value c.install_at_pubd-answer.ensures.ok c.install_at_pubd-answer.ensures.err c.list_if.ensures.past c.list_if.ensures.room).1
