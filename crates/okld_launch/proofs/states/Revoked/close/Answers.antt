use Rattle.std.proofs.Common.{rules}
use Rattle.okld_launch.proofs.Told.{closes_on}
use Rattle.okld_launch.proofs.Attending.{closes_as}
use Rattle.okld_launch.proofs.states.Revoked.close.Goals as goal

pub returns-in-Ok : goal.returns-in-Ok
returns-in-Ok g c = record {
  closes = closes_on g.N.Numbered.site c.args.self c.in-Ok.installed c.close.result.1 c.close.result.0 c.in-Ok.ensures.ok c.close.ensures.closes;
  whole = λ up ended way. closes_as g.N.Numbered.site g.N.Numbered.run_seed g.N.Staffed.children up ended c.args.self c.in-Ok.installed c.close.result.1 c.close.result.0 c.in-Ok.ensures.ok (c.close.ensures.whole up ended (c.in-Ok.ensures.way up ended way));
  holder = search rules;
}

pub returns-in-Err : goal.returns-in-Err
returns-in-Err g c = record {
  closes = search rules;
  whole = λ up ended way. c.revoke.ensures.whole up ended (c.in-Err.ensures.broken up ended way);
  holder = search rules;
}
