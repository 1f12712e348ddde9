use Rattle.config_reader.proofs.Kept.{holds_at, kept_set, table_changed}
use Rattle.config_reader.proofs.Plans.{on_ok}
use Rattle.config_reader.proofs.tables.Tables.add_row.Goals as goal

pub add_row-requires : goal.add_row-requires
add_row-requires c =
    holds_at c.self.inside.list.items c.self.inside.keys.items c.in-Some.place c.index_mut.result.now c.index_mut-in-Some.result.now c.self.invariant (rw c.deref.ensures.value at c.in-Some.ensures.within) c.index_mut.ensures.value c.index_mut-in-Some.ensures.value

pub invariant_of-self : goal.invariant_of-self
invariant_of-self c =
    kept_set c.self.inside.list.items c.self.inside.keys.items c.in-Some.place c.add_row.new.table c.add_row.new.keys c.self.invariant (rw c.deref.ensures.value at c.in-Some.ensures.within) c.add_row.ensures.kept

pub returns-in-Some : goal.returns-in-Some
returns-in-Some c =
    on_ok c.add_row.result _ _ (λ changed. table_changed _ c.args.self.now c.args.name.now c.args.values.items c.deref.result.now c.in-Some.place c.index_mut.result.now c.add_row.new.table
    c.self.view_is c.deref.ensures.value c.in-Some.ensures.is c.in-Some.ensures.within c.index_mut.ensures.value changed) c.add_row.ensures.added
