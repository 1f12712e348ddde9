use Rattle.std.proofs.Common.{◌≡◌, drop}
use Rattle.std.specs.List.{list_all}
use Rattle.config_syntax.specs.Columns.{is_kind}
use Rattle.config_syntax.specs.Declarations.{ColumnWords}
use Rattle.config_syntax.proofs.column.have_kinds.Given as goal

abbrev pub invariant-loop-column : goal.invariant-loop-column
invariant-loop-column l = list_all (λ (c : ColumnWords). is_kind c.kind) (drop l.column-index l.columns) ≡ list_all (λ (c : ColumnWords). is_kind c.kind) l.columns
