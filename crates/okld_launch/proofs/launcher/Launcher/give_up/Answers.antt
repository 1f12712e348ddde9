use Rattle.std.proofs.Common.{rules, refl, arith, subst, sym}
use Rattle.okws_plan.specs.declared.event.LauncherEvent.TheVariants as event
use Rattle.okld_launch.proofs.Begins.{launcher_of, entered_other}
use Rattle.okld_launch.proofs.Trying.{dead_begun}
use Rattle.okld_launch.proofs.Failing.{told_entered}
use Rattle.launch_crew.specs.Coming.{came_up}
use Rattle.std.specs.Prelude.{slice_index}
use Rattle.okld_launch.proofs.Caused.{entered_caused}
use Rattle.okld_launch.proofs.Causing.{caused_dead}
use Rattle.launch_crew.specs.Crews.{crew_of, StaffIs}
use Rattle.okld_launch.proofs.Kept.{kin_noted}
use Rattle.okld_launch.proofs.Faults.{faults_entered}
use Rattle.std.specs.Arc.{arc_value}
use Rattle.okld_launch.specs.Launchers.{IsPlaced}
use Rattle.okld_launch.proofs.launcher.Launcher.give_up.Goals as goal

pub invariant_of-self : goal.invariant_of-self
invariant_of-self g c = subst (λ (t : StaffIs). IsPlaced g.N.Numbered.site g.N.Numbered.run_seed g.N.Staffed.children (launcher_of c.give_up-tries.new.self c.self.inside.crew.recorder t c.self.inside.ups.items) (arc_value c.self.inside.site) c.self.inside.seed) (sym c.give_up.ensures) (record {
  site_is = c.self.invariant.site_is;
  seed_is = c.self.invariant.seed_is;
  few = c.self.invariant.few;
  failed = told_entered g.N.Staffed.children c.self.inside.crew.staff.family (event.Dead c.args.service c.give_up-tries.result) c.self.inside.journal c.give_up-tries.new.self refl c.give_up-tries.ensures.entered c.self.invariant.failed;
  keeps = entered_other g.N.Numbered.site (launcher_of c.self.inside.journal c.self.inside.crew.recorder c.self.inside.crew.staff c.self.inside.ups.items) c.give_up-tries.new.self (event.Dead c.args.service c.give_up-tries.result) (λ t. refl) (dead_begun c.self.inside.journal.past c.args.service c.give_up-tries.result) c.give_up-tries.ensures.entered c.self.invariant.keeps;
  caused = entered_caused (launcher_of c.self.inside.journal c.self.inside.crew.recorder c.self.inside.crew.staff c.self.inside.ups.items) c.give_up-tries.new.self (event.Dead c.args.service c.give_up-tries.result) c.give_up-tries.ensures.entered (caused_dead (came_up c.self.inside.crew.recorder.sat) (λ s. slice_index c.self.inside.ups.items s) c.self.inside.journal.past c.self.inside.journal.holder c.args.service c.self.invariant.caused c.give_up-tries.result);
  attended = c.self.invariant.attended;
  kin = kin_noted g.N.Numbered.site g.N.Numbered.run_seed g.N.Staffed.children c.self.inside.journal c.give_up-tries.new.self (event.Dead c.args.service c.give_up-tries.result) (crew_of c.self.inside.crew.recorder c.self.inside.crew.staff) (λ t. omega arith) c.give_up-tries.ensures.entered c.self.invariant.kin;
  faults = faults_entered g.N.Staffed.children (event.Dead c.args.service c.give_up-tries.result) c.self.inside.journal c.give_up-tries.new.self (crew_of c.self.inside.crew.recorder c.self.inside.crew.staff) refl c.give_up-tries.ensures.entered c.self.invariant.faults;
})

pub returns-in_err-make_room : goal.returns-in_err-make_room
returns-in_err-make_room g c = record {
  tries = search rules;
  entered = search rules;
  err = search rules;
  same = search rules;
  holder = search rules;
}

pub returns : goal.returns
returns g c = record {
  tries = search rules;
  entered = search rules;
  err = search rules;
  same = search rules;
  holder = search rules;
}
