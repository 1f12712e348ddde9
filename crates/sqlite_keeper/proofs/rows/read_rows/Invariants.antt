use Rattle.std.proofs.Common.{◌≡◌, take, length, All, List}
use Rattle.std.specs.Prelude.{map}
use Rattle.okws_base.specs.declared.value.Value.{Value}
use Rattle.sqlite_keeper.specs.Values.{stored}
use Rattle.sqlite_keeper.proofs.rows.read_rows.Given as goal

abbrev pub invariant-loop-one : goal.invariant-loop-one
invariant-loop-one l = (map (λ (row : List Value). map stored row) l.rows ≡ take l.one-index l.shown) × All (λ (row : List Value). length row ≡ length l.kinds) l.rows
