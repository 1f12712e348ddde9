use Rattle.std.proofs.Common.{◌≡◌, take}
use Rattle.index_keeper.specs.Joining.{own_conditions}
use Rattle.index_keeper.proofs.joining.first_conditions.Given as goal

abbrev pub invariant-loop-condition : goal.invariant-loop-condition
invariant-loop-condition l = l.out.items ≡ own_conditions l.width (take l.condition-index l.conditions)
