use Rattle.std.proofs.Common.{◌∙◌, ap, sym, Bool}
use Rattle.std.specs.Prelude.{◌||◌}
use Rattle.std.specs.List.{list_any}
use Rattle.index_keeper.specs.Indexed.{compares, joins_at}
use Rattle.index_keeper.proofs.declared.wants.Goals as goal

pub returns-else-key : goal.returns-else-key
returns-else-key c =
    c.is_named.ensures
    ∙ sym (ap (λ (b : Bool). b || (list_any (compares c.args.table c.args.column) c.args.queries.now || list_any (joins_at c.args.tables.now c.args.table c.args.column) c.args.queries.now)) (sym c.key_at-key.ensures ∙ c.if-key.false))
