use Rattle.std.proofs.Common.{◌≡◌}
use Rattle.std.specs.Prelude.{filter}
use Rattle.std.specs.List.{range_with_len}
use Rattle.index_keeper.specs.Indexed.{is_wanted}
use Rattle.index_keeper.proofs.declared.wanted_columns.Given as goal

abbrev pub invariant-loop-column : goal.invariant-loop-column
invariant-loop-column l = l.out.items ≡ filter (is_wanted l.tables l.queries l.table l.columns) (range_with_len 0 l.column)
