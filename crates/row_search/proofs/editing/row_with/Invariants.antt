use Rattle.std.proofs.Common.{◌≡◌, take}
use Rattle.okws_plan.specs.Meaning.{row_of}
use Rattle.row_search.proofs.editing.row_with.Given as goal

abbrev pub invariant-loop-value : goal.invariant-loop-value
invariant-loop-value l = l.row.items ≡ row_of l.args (take l.value-index l.values)
