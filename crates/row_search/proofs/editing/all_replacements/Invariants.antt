use Rattle.std.proofs.Common.{◌≡◌, take, Some, List}
use Rattle.okws_base.specs.declared.value.Value.{Value}
use Rattle.okws_plan.specs.Meaning.{assigned}
use Rattle.row_index.specs.Changes.{changes_to}
use Rattle.row_search.specs.Hits.{entries_of}
use Rattle.row_search.proofs.editing.all_replacements.Given as goal

abbrev pub invariant-loop-hit : goal.invariant-loop-hit
invariant-loop-hit l = l.changes.items ≡ changes_to (λ (row : List Value). Some (assigned l.args l.assignments row)) (entries_of (take l.hit-index l.hits))
