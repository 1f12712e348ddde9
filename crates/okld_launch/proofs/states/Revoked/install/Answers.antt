use Rattle.std.proofs.Common.{subst, sym, length}
use Rattle.launch_crew.proofs.Children.{more_same}
use Rattle.okld_launch.specs.States.{LaunchIs, GoesOn}
use Rattle.okld_launch.proofs.Stating.{launch_of, goes_on}
use Rattle.okld_launch.proofs.OnWay.{way_fronts, way_places}
use Rattle.okld_launch.specs.Pieces.{HasCleared}
use Rattle.okld_launch.proofs.Children.{hands_stay}
use Rattle.okld_launch.proofs.states.Revoked.install.Goals as goal

pub returns-in-Ok : goal.returns-in-Ok
returns-in-Ok g c = record {
  ok = subst (λ (x : LaunchIs). GoesOn x (launch_of c.install.new.self c.self.inside.service c.self.inside.incarnation)) c.self.view_is
      (goes_on c.self.inside.launcher c.install.new.self c.self.inside.service c.self.inside.incarnation c.install.ensures.journal (more_same c.self.inside.launcher.crew.family c.install.new.self.crew.family c.install.ensures.hands.family_is));
  err = tt;
  way = λ up ended way. way_places g.N.Numbered.site g.N.Numbered.run_seed g.N.Staffed.children up ended c.self.inside.launcher c.install.new.self c.self.inside.service c.self.inside.incarnation c.install.ensures.journal (hands_stay c.self.inside.launcher.crew c.install.new.self.crew c.install.ensures.hands)
      c.install.ensures.hands.watch_is c.in-Ok.ensures.added (subst (HasCleared g.N.Numbered.site g.N.Numbered.run_seed g.N.Staffed.children up ended) (sym c.self.view_is) way);
  broken = tt;
}

pub returns-in-Err : goal.returns-in-Err
returns-in-Err g c = record {
  ok = tt;
  err = subst (λ (x : LaunchIs). GoesOn x (launch_of c.install.new.self c.self.inside.service c.self.inside.incarnation)) c.self.view_is
      (goes_on c.self.inside.launcher c.install.new.self c.self.inside.service c.self.inside.incarnation c.install.ensures.journal (more_same c.self.inside.launcher.crew.family c.install.new.self.crew.family c.install.ensures.hands.family_is));
  way = tt;
  broken = λ up ended way.
      let f = c.in-Err.ensures.front in
      (length f.1.done, way_fronts g.N.Numbered.site g.N.Numbered.run_seed g.N.Staffed.children up ended c.self.inside.launcher c.install.new.self c.self.inside.service c.self.inside.incarnation c.install.ensures.journal (hands_stay c.self.inside.launcher.crew c.install.new.self.crew c.install.ensures.hands) c.install.ensures.hands.watch_is f.0 f.1 (subst (HasCleared g.N.Numbered.site g.N.Numbered.run_seed g.N.Staffed.children up ended) (sym c.self.view_is) way));
}
