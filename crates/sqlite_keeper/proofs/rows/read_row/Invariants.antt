use Rattle.std.proofs.Common.{◌≡◌, take, length}
use Rattle.std.specs.Prelude.{map}
use Rattle.sqlite_keeper.specs.Values.{stored}
use Rattle.sqlite_keeper.proofs.rows.read_row.Given as goal

abbrev pub invariant-loop-at : goal.invariant-loop-at
invariant-loop-at l = (map stored l.values ≡ take l.at l.shown) × (length l.values ≡ l.at)
