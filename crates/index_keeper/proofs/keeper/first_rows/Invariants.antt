use Rattle.std.proofs.Common.{◌≡◌, ℕ, take}
use Rattle.std.specs.Prelude.{map}
use Rattle.std.specs.List.{range_with_len}
use Rattle.okws_plan.specs.Meaning.{columns_of}
use Rattle.okws_plan.specs.declared.configuration.Table.{Table}
use Rattle.row_search.specs.Places.{Indexed, rows_of}
use Rattle.index_keeper.specs.Indexed.{wanted}
use Rattle.index_keeper.proofs.keeper.first_rows.Given as goal

abbrev pub invariant-loop-table : goal.invariant-loop-table
invariant-loop-table l = record {
  rows : map (λ (r : Indexed). rows_of r.entries) l.rows.items ≡ map (λ (t : Table). t.first) (take l.table l.tables);
  columns : map (λ (r : Indexed). r.columns) l.rows.items ≡ map (λ (t : ℕ). wanted l.tables l.queries t (columns_of l.tables t)) (range_with_len 0 l.table);
}
