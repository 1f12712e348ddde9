use Rattle.std.proofs.Common.{◌≡◌, ◌++◌, take}
use Rattle.sqlite_keeper.specs.Values.{kinds_of}
use Rattle.sqlite_keeper.proofs.rows.kinds_of.Given as goal

abbrev pub invariant-loop-at : goal.invariant-loop-at
invariant-loop-at l = l.kinds.items ≡ kinds_of (l.columns ++ l.others) (take l.at-index l.listed)
