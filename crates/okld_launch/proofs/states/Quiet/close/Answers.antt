use Rattle.std.proofs.Common.{rules}
use Rattle.okld_launch.proofs.Told.{closes_on}
use Rattle.okld_launch.proofs.Attending.{closes_as}
use Rattle.okld_launch.proofs.states.Quiet.close.Goals as goal

pub returns : goal.returns
returns g c = record {
  closes = closes_on g.N.Numbered.site c.args.self c.revoke.result c.close.result.1 c.close.result.0 c.revoke.ensures.on c.close.ensures.closes;
  whole = λ up ended way. closes_as g.N.Numbered.site g.N.Numbered.run_seed g.N.Staffed.children up ended c.args.self c.revoke.result c.close.result.1 c.close.result.0 c.revoke.ensures.on (c.close.ensures.whole up ended (c.revoke.ensures.way up ended way));
  holder = search rules;
}
