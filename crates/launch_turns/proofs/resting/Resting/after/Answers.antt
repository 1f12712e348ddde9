use Rattle.std.proofs.Common.{List, sym, subst}
use Rattle.launch_turns.specs.Resting.{Rests}
use Rattle.launch_turns.specs.declared.deed.Deed.{Deed}
use Rattle.launch_turns.proofs.resting.Resting.after.Goals as goal

pub invariant_of-result : goal.invariant_of-result
invariant_of-result g c = subst (λ (deeds : List Deed). Rests g.N.Numbered.site g.N.Numbered.run_seed g.N.Staffed.children deeds c.args.launcher) (sym c.and.ensures) c.requires
