use Rattle.std.proofs.Common.{◌≡◌, map, take}
use Rattle.statement_core.specs.Resolving.{assignment_of}
use Rattle.statement_core.proofs.action.assignments.Given as goal

abbrev pub invariant-loop-setting : goal.invariant-loop-setting
invariant-loop-setting l = l.out.items ≡ map (assignment_of l.columns) (take l.setting-index l.settings)
