use Rattle.std.proofs.Common.{rules}
use Rattle.okld_launch.proofs.Again.{may_again}
use Rattle.okld_launch.proofs.OnWay.{closed_given}
use Rattle.okld_launch.proofs.launcher.Launcher.give_up_again.Goals as goal

pub give_up-requires-clause-may : goal.give_up-requires-clause-may
give_up-requires-clause-may g c = may_again g.N.Numbered.site c.args.self.journal.past c.args.service c.keeps.ensures.law c.requires.dead c.requires.fell

pub returns-in-Ok : goal.returns-in-Ok
returns-in-Ok g c = record {
  again = (c.in-Ok.ensures.tries, c.in-Ok.ensures.entered);
  enters = search rules;
  few = search rules;
  whole = λ up ended whole. closed_given g.N.Numbered.site g.N.Numbered.run_seed g.N.Staffed.children up ended c.args.self c.give_up.new.self c.give_up.result c.args.service c.give_up.ensures.entered c.give_up.ensures.err c.give_up.ensures.same whole;
  holder = c.give_up.ensures.holder;
}

pub returns-in-Err : goal.returns-in-Err
returns-in-Err g c = record {
  again = c.in-Err.ensures.err;
  enters = search rules;
  few = search rules;
  whole = λ up ended whole. closed_given g.N.Numbered.site g.N.Numbered.run_seed g.N.Staffed.children up ended c.args.self c.give_up.new.self c.give_up.result c.args.service c.give_up.ensures.entered c.give_up.ensures.err c.give_up.ensures.same whole;
  holder = c.give_up.ensures.holder;
}
