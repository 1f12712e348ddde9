use Rattle.std.proofs.Common.{◌≡◌, ℕ}
use Rattle.std.specs.List.Sorted.{IsStrictlySortedBy}
use Rattle.std.specs.Map.{keys_of}
use Rattle.std.specs.Ordering.{nat_cmp}
use Rattle.row_index.specs.Places.{row_at}
use Rattle.row_index.specs.Changes.{changed}
use Rattle.row_index.proofs.changing.carry_out.Given as goal

abbrev pub invariant-loop-change : goal.invariant-loop-change
invariant-loop-change l = record {
  rows : (p : ℕ) → row_at l.rows.entries p ≡ changed l.yielded (row_at l.initial.rows.entries p) p;
  rising : IsStrictlySortedBy nat_cmp (keys_of l.initial.rows.entries) → IsStrictlySortedBy nat_cmp (keys_of l.rows.entries);
  next : l.rows.next ≡ l.initial.rows.next;
}
