use Rattle.std.proofs.Common.{◌≡◌, drop}
use Rattle.std.specs.List.{list_all}
use Rattle.okws_base.specs.Names.{is_identifier}
use Rattle.config_syntax.specs.Declarations.{ColumnWords}
use Rattle.config_syntax.proofs.column.have_identifiers.Given as goal

abbrev pub invariant-loop-column : goal.invariant-loop-column
invariant-loop-column l = list_all (λ (c : ColumnWords). is_identifier c.name) (drop l.column-index l.columns) ≡ list_all (λ (c : ColumnWords). is_identifier c.name) l.columns
