use Rattle.std.proofs.Common.{inl, inr, refl, subst}
use Rattle.launch_journal.specs.Launches.{Allows}
use Rattle.launch_journal.specs.declared.next.Next.{Next}
use Rattle.okld_launch.proofs.OnWay.{closed_given}
use Rattle.okld_launch.proofs.launcher.Launcher.end.Goals as goal

pub returns-in-Ok : goal.returns-in-Ok
returns-in-Ok g c = record {
  ends = inr (subst (λ (x : Next). Allows g.N.Numbered.site c.args.self.journal.past c.args.service x) c.in-GiveUp.is c.requires.allows, c.in-Ok.ensures.tries, c.in-Ok.ensures.entered);
  enters = c.in-Ok.ensures.entered;
  closing = λ t j. refl;
  down = refl;
  whole = λ up ended whole. closed_given g.N.Numbered.site g.N.Numbered.run_seed g.N.Staffed.children up ended c.args.self c.give_up.new.self c.give_up.result c.args.service c.give_up.ensures.entered c.give_up.ensures.err c.give_up.ensures.same whole;
  holder = c.give_up.ensures.holder;
}

pub returns-in-Err : goal.returns-in-Err
returns-in-Err g c = record {
  ends = inl c.in-Err.ensures.err;
  enters = c.in-Err.ensures.err;
  closing = λ t j. refl;
  down = refl;
  whole = λ up ended whole. closed_given g.N.Numbered.site g.N.Numbered.run_seed g.N.Staffed.children up ended c.args.self c.give_up.new.self c.give_up.result c.args.service c.give_up.ensures.entered c.give_up.ensures.err c.give_up.ensures.same whole;
  holder = c.give_up.ensures.holder;
}

pub returns-in-Dead : goal.returns-in-Dead
returns-in-Dead g c = record {
  ends = inl (subst (λ (x : Next). Allows g.N.Numbered.site c.args.self.journal.past c.args.service x) c.in-Dead.is c.requires.allows, refl);
  enters = refl;
  closing = λ t j. refl;
  down = refl;
  whole = λ up ended whole. whole;
  holder = refl;
}

pub returns-in-Spent : goal.returns-in-Spent
returns-in-Spent g c = record {
  ends = (subst (λ (x : Next). Allows g.N.Numbered.site c.args.self.journal.past c.args.service x) c.in-Spent.is c.requires.allows, refl);
  enters = refl;
  closing = λ t j. refl;
  down = refl;
  whole = λ up ended whole. whole;
  holder = refl;
}
