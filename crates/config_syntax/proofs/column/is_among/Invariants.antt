use Rattle.std.proofs.Common.{◌≡◌, drop}
use Rattle.std.specs.List.{list_any}
use Rattle.okws_base.specs.Value.{same_bytes}
use Rattle.config_syntax.specs.Declarations.{ColumnWords}
use Rattle.config_syntax.proofs.column.is_among.Given as goal

abbrev pub invariant-loop-column : goal.invariant-loop-column
invariant-loop-column l = list_any (λ (c : ColumnWords). same_bytes l.name c.name) (drop l.column-index l.columns) ≡ list_any (λ (c : ColumnWords). same_bytes l.name c.name) l.columns
