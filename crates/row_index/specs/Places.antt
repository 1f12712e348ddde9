-- What stands at a place, and what is to stand there.
use Rattle.std.specs.Prelude.{ℕ, List, Option, Some, None}
use Rattle.std.specs.Ordering.{nat_cmp}
use Rattle.std.specs.BTreeMap.{is_at}
use Rattle.std.specs.Map.{lookup}
use Rattle.okws_base.specs.declared.value.Value.{Value}

-- The row at a place, if there is one.
abbrev pub row_at : List (ℕ × List Value) → ℕ → Option (List Value)
row_at entries p = lookup (is_at (nat_cmp p)) entries

-- What is to stand where a row was; nothing where none was.
abbrev pub merged : Option (List Value) → Option (List Value) → Option (List Value)
merged None n = None
merged (Some o) n = n
