use Rattle.row_index.specs.declared.slot.Slot.{Slot}
use Rattle.row_index.proofs.appending.append.Goals as goal

pub put_behind-requires-clause-index : goal.put_behind-requires-clause-index
put_behind-requires-clause-index c = λ (q : Slot). c.requires.index.exact q
