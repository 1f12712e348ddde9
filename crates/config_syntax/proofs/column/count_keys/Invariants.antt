use Rattle.std.proofs.Common.{◌≡◌, ◌≤◌, take}
use Rattle.config_syntax.specs.Columns.{key_count}
use Rattle.config_syntax.proofs.column.count_keys.Given as goal

abbrev pub invariant-loop-column : goal.invariant-loop-column
invariant-loop-column l = record { is : l.count ≡ key_count (take l.column-index l.columns); small : l.count ≤ l.column-index }
