use Rattle.std.proofs.Common.{◌∙◌, sym, ap}
use Rattle.launch_turns.specs.Deeds.{ended_in, up_in}
use Rattle.okld_launch.specs.Launchers.{LauncherIs}
use Rattle.okld_launch.proofs.OnWay.{closed_held}
use Rattle.launch_turns.proofs.resting.RestingJournaled.hold.Goals as goal

pub invariant_of-self : goal.invariant_of-self
invariant_of-self g c = record {
  entries_are = c.self.invariant.entries_are ∙ sym (ap (λ (l : LauncherIs). l.journal.past) c.hold.ensures);
  closed = closed_held g.N.Numbered.site g.N.Numbered.run_seed g.N.Staffed.children (up_in c.self.inside.deeds.past) (ended_in c.self.inside.deeds.past) c.self.inside.launcher c.hold.new.self c.args.number c.hold.ensures c.self.invariant.closed;
}
