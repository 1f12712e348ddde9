use Rattle.std.proofs.Common.{◌∙◌, ap, sym, Bool}
use Rattle.std.specs.Prelude.{◌||◌}
use Rattle.std.specs.List.{list_any}
use Rattle.index_keeper.specs.Indexed.{joins_at}
use Rattle.index_keeper.proofs.declared.is_named.Goals as goal

pub returns-else-asked : goal.returns-else-asked
returns-else-asked c =
    c.is_joined.ensures
    ∙ sym (ap (λ (b : Bool). b || list_any (joins_at c.args.tables.now c.args.table c.args.column) c.args.queries.now) (sym c.asked-asked.ensures ∙ c.if-asked.false))
