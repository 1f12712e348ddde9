use Rattle.std.proofs.Common.{◌≡◌, take}
use Rattle.row_search.specs.Places.{rows_of}
use Rattle.index_keeper.proofs.keeper.filled.Given as goal

abbrev pub invariant-loop-row : goal.invariant-loop-row
invariant-loop-row l = record {
  columns : l.rows.columns ≡ l.initial.rows.columns;
  rows : rows_of l.rows.entries ≡ take l.row-index l.first;
}
