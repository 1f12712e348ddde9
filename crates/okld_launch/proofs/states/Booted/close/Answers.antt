use Rattle.std.proofs.Common.{rules, sym, subst}
use Rattle.okld_launch.specs.Pieces.{IsClosed, with_up}
use Rattle.okld_launch.specs.States.{LaunchIs}
use Rattle.okld_launch.proofs.states.Booted.close.Goals as goal

pub returns-in-Ok : goal.returns-in-Ok
returns-in-Ok g c = record {
  closes = search rules;
  whole = λ up ended way. subst (λ (a : LaunchIs). IsClosed g.N.Numbered.site g.N.Numbered.run_seed g.N.Staffed.children (with_up c.args.self.service a.incarnation up) ended c.in-Ok.launcher) (sym c.self.view_is) (c.in-Ok.ensures.whole up ended way);
  holder = search rules;
}

pub returns-in-Err : goal.returns-in-Err
returns-in-Err g c = record {
  closes = search rules;
  whole = λ up ended way. c.revoke.ensures.whole up ended (c.in-Err.ensures.broken up ended way);
  holder = search rules;
}
