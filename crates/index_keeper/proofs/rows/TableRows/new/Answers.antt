use Rattle.row_search.proofs.Scanned.{none_sound}
use Rattle.index_keeper.proofs.rows.TableRows.new.Goals as goal

pub invariant_of-result : goal.invariant_of-result
invariant_of-result c = none_sound c.args.columns.items c.new.result c.new-2.result c.new.ensures c.new-2.ensures
