use Rattle.std.proofs.Common.{rules, subst, suc, length, sym}
use Rattle.launch_crew.proofs.Children.{more_same}
use Rattle.okld_launch.specs.States.{LaunchIs, GoesOn}
use Rattle.okld_launch.proofs.Stating.{launch_of, goes_on}
use Rattle.okws_plan.specs.Configuration.{cols}
use Rattle.okld_launch.proofs.OnWay.{closes_up, way_same}
use Rattle.okld_launch.specs.Pieces.{HasBooted, IsClosed, with_up}
use Rattle.okld_launch.proofs.Children.{stays_same}
use Rattle.okld_launch.proofs.states.Booted.up.Goals as goal

pub returns-in-Ok : goal.returns-in-Ok
returns-in-Ok g c = record {
  ok = search rules;
  err = tt;
  whole = λ up ended way.
      let h = subst (HasBooted g.N.Numbered.site g.N.Numbered.run_seed g.N.Staffed.children up ended) (sym c.self.view_is) way in
      subst (λ (a : LaunchIs). IsClosed g.N.Numbered.site g.N.Numbered.run_seed g.N.Staffed.children (with_up a.service a.incarnation up) ended c.up.new.self) c.self.view_is
      (closes_up g.N.Numbered.site g.N.Numbered.run_seed g.N.Staffed.children up ended c.self.inside.launcher c.up.new.self c.self.inside.service c.self.inside.incarnation c.up.ensures.journal (stays_same c.self.inside.launcher.crew c.up.new.self.crew c.up.ensures.running c.up.ensures.cells c.up.ensures.family) c.up.ensures.cells c.in-Ok.ensures.added h);
  broken = tt;
}

pub returns-in-Err : goal.returns-in-Err
returns-in-Err g c = record {
  ok = tt;
  err = subst (λ (x : LaunchIs). GoesOn x (launch_of c.up.new.self c.self.inside.service c.self.inside.incarnation)) c.self.view_is
      (goes_on c.self.inside.launcher c.up.new.self c.self.inside.service c.self.inside.incarnation c.up.ensures.journal (more_same c.self.inside.launcher.crew.family c.up.new.self.crew.family c.up.ensures.family));
  whole = tt;
  broken = λ up ended way.
      let n = suc (length (cols g.N.Numbered.site c.self.inside.service)) in
      (n, way_same g.N.Numbered.site g.N.Numbered.run_seed g.N.Staffed.children up ended c.self.inside.launcher c.up.new.self c.self.inside.service c.self.inside.incarnation c.up.ensures.journal (stays_same c.self.inside.launcher.crew c.up.new.self.crew c.up.ensures.running c.up.ensures.cells c.up.ensures.family) c.up.ensures.cells c.in-Err.ensures.kept n (subst (HasBooted g.N.Numbered.site g.N.Numbered.run_seed g.N.Staffed.children up ended) (sym c.self.view_is) way));
}
