use Rattle.std.proofs.Common.{◌≡◌, ◌++◌, take}
use Rattle.row_index.specs.Stands.{standing}
use Rattle.row_search.specs.Places.{rows_of}
use Rattle.index_keeper.proofs.rows.TableRows.push_all.Given as goal

abbrev pub invariant-loop-stand : goal.invariant-loop-stand
invariant-loop-stand l = record {
  columns : l.self.columns ≡ l.initial.self.columns;
  rows : rows_of l.self.entries ≡ rows_of l.initial.self.entries ++ rows_of (standing (take l.stand-index l.stands));
}
