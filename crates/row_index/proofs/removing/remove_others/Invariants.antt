use Rattle.std.proofs.Common.{◌≡◌, ℕ, Some, true}
use Rattle.std.specs.Prelude.{IfSome}
use Rattle.std.specs.List.Sorted.{IsStrictlySortedBy}
use Rattle.std.specs.Map.{keys_of}
use Rattle.std.specs.Ordering.{nat_cmp}
use Rattle.row_index.specs.Places.{row_at}
use Rattle.row_index.specs.GroupPlaces.{is_among}
use Rattle.row_index.specs.Index.{IsIndexBut, cell, is_value}
use Rattle.row_index.specs.Changes.{changed, removals_at}
use Rattle.row_index.proofs.removing.remove_others.Given as goal

abbrev pub invariant-loop-place : goal.invariant-loop-place
invariant-loop-place l = record {
  index : IsIndexBut l.group l.columns l.rows.entries l.slots;
  own : (p : ℕ) → is_among p l.place-iterator ≡ true → IfSome (row_at l.rows.entries p) (λ row. is_value l.group.value (cell l.group.column (Some row)) ≡ true);
  left : (p : ℕ) → changed (removals_at l.place-iterator) (row_at l.rows.entries p) p ≡ changed (removals_at l.fn.places.keys) (row_at l.initial.rows.entries p) p;
  rising : IsStrictlySortedBy nat_cmp (keys_of l.initial.rows.entries) → IsStrictlySortedBy nat_cmp (keys_of l.rows.entries);
  next : l.rows.next ≡ l.initial.rows.next;
}
