use Rattle.std.proofs.Common.{◌≡◌, ◌+◌, ◌++◌, length, reverse}
use Rattle.service_cell.proofs.course.enter_all.Given as goal

abbrev pub invariant-loop-item : goal.invariant-loop-item
invariant-loop-item l = record {
  past : l.items.items ++ l.journal.past ≡ reverse l.fn.items.items ++ l.fn.journal.past;
  room : l.journal.room + length l.fn.items.items ≡ l.fn.journal.room + length l.items.items;
}

abbrev pub decreases-loop-item : goal.decreases-loop-item
decreases-loop-item l = length l.items.items
