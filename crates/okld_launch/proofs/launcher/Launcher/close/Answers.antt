use Rattle.std.proofs.Common.{◌≡◌, List, sym, subst}
use Rattle.std.specs.Prelude.{slice_index}
use Rattle.okws_base.specs.declared.journal.Entry.{Entry}
use Rattle.okws_plan.specs.declared.event.LauncherEvent.{LauncherEvent}
use Rattle.monitor_model.specs.Launcher.{begun}
use Rattle.launch_crew.specs.Crews.{Below, crew_of}
use Rattle.launch_crew.specs.Coming.{came_up}
use Rattle.okld_launch.specs.Causing.{AllCaused}
use Rattle.okld_launch.specs.Failures.{FailuresAreTold, FaultsAreTold}
use Rattle.okld_launch.specs.Kin.{AreKin}
use Rattle.okld_launch.specs.Launchers.{LauncherIs}
use Rattle.okld_launch.specs.Pieces.{IsWhole}
use Rattle.okld_launch.proofs.launcher.Launcher.close.Goals as goal

pub returns-clause-below : goal.returns-clause-below
returns-clause-below g c = λ s. subst (λ (J : List (Entry LauncherEvent)). Below s (begun J s) c.self.inside.crew.recorder.sat c.self.inside.crew.recorder.watch) (sym c.close.ensures.past) (c.self.invariant.keeps.each s).below

pub returns-clause-shown : goal.returns-clause-shown
returns-clause-shown g c = λ s within. subst (λ (J : List (Entry LauncherEvent)). slice_index c.self.inside.crew.recorder.sat.board s ≡ begun J s) (sym c.close.ensures.past) ((c.self.invariant.keeps.each s).shown within)

pub returns-clause-failed : goal.returns-clause-failed
returns-clause-failed g c = subst (λ (J : List (Entry LauncherEvent)). FailuresAreTold g.N.Staffed.children J c.self.inside.crew.staff.family) (sym c.close.ensures.past) c.self.invariant.failed

pub returns-clause-caused : goal.returns-clause-caused
returns-clause-caused g c = subst (λ (J : List (Entry LauncherEvent)). AllCaused (came_up c.self.inside.crew.recorder.sat) J J) (sym c.close.ensures.past) c.self.invariant.caused.all

pub returns-clause-whole : goal.returns-clause-whole
returns-clause-whole g c = λ up ended whole. subst (λ (J : List (Entry LauncherEvent)). IsWhole g.N.Numbered.site g.N.Numbered.run_seed up J c.self.inside.crew.recorder.watch.cells c.self.inside.crew.recorder.own) (sym c.close.ensures.past)
    (subst (λ (x : LauncherIs). IsWhole g.N.Numbered.site g.N.Numbered.run_seed up x.journal.past x.crew.watch.cells x.crew.own) (sym c.self.view_is) whole.whole)

pub returns-clause-kin : goal.returns-clause-kin
returns-clause-kin g c = subst (λ (J : List (Entry LauncherEvent)). AreKin g.N.Numbered.site g.N.Numbered.run_seed g.N.Staffed.children J (crew_of c.self.inside.crew.recorder c.self.inside.crew.staff)) (sym c.close.ensures.past) c.self.invariant.kin

pub returns-clause-faults : goal.returns-clause-faults
returns-clause-faults g c = subst (λ (J : List (Entry LauncherEvent)). FaultsAreTold g.N.Staffed.children J (crew_of c.self.inside.crew.recorder c.self.inside.crew.staff)) (sym c.close.ensures.past) c.self.invariant.faults
