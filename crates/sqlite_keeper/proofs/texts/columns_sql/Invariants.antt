use Rattle.std.proofs.Common.{◌≡◌, ◌++◌, drop}
use Rattle.std.specs.Prelude.{string_bytes}
use Rattle.sqlite_keeper.specs.Texts.{columns_sql}
use Rattle.sqlite_keeper.proofs.texts.columns_sql.Given as goal

abbrev pub invariant-loop-at : goal.invariant-loop-at
invariant-loop-at l = string_bytes l.all ++ columns_sql l.at-counter (drop l.at-counter l.columns) ≡ columns_sql 0 l.columns
