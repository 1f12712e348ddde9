use Rattle.std.proofs.Common.{◌∙◌, ap, subst, sym}
use Rattle.std.specs.Prelude.{slice_index}
use Rattle.okld_launch.specs.Launchers.{IsOut}
use Rattle.okld_launch.specs.States.{LaunchIs}
use Rattle.okld_launch.proofs.OnWay.{closes_off}
use Rattle.okld_launch.specs.Pieces.{BreaksOff}
use Rattle.okld_launch.proofs.Children.{stays_same}
use Rattle.okld_launch.proofs.states.Broken.revoke.Goals as goal

pub returns-clause-out : goal.returns-clause-out
returns-clause-out g c = subst (λ (x : LaunchIs). IsOut g.N.Numbered.site x.service c.revoke.new.self) c.self.view_is (record {
  down = ap (λ us. slice_index us c.self.inside.service) c.revoke.ensures.ups ∙ c.self.invariant.down;
  none = c.revoke.ensures.none;
})

pub returns-clause-whole : goal.returns-clause-whole
returns-clause-whole g c = λ up ended way.
    let h = subst (BreaksOff g.N.Numbered.site g.N.Numbered.run_seed g.N.Staffed.children up ended) (sym c.self.view_is) way in
    closes_off g.N.Numbered.site g.N.Numbered.run_seed g.N.Staffed.children up ended c.self.inside.launcher c.revoke.new.self c.self.inside.service c.self.inside.incarnation c.revoke.ensures.journal (stays_same c.self.inside.launcher.crew c.revoke.new.self.crew c.revoke.ensures.running c.revoke.ensures.cells c.revoke.ensures.family) c.revoke.ensures.cells c.revoke.ensures.own h.0 h.1
