use Rattle.config_reader.proofs.Kept.{holds_at, table_found}
use Rattle.config_reader.proofs.tables.Tables.can_hold.Goals as goal

pub can_hold-requires : goal.can_hold-requires
can_hold-requires c =
    holds_at c.self.inside.list.items c.self.inside.keys.items c.in-Some.place c.index.result.now c.index-in-Some.result.now c.self.invariant (rw c.deref.ensures.value at c.in-Some.ensures.within) c.index.ensures c.index-in-Some.ensures

pub returns-in-Some : goal.returns-in-Some
returns-in-Some c =
    rw (table_found _ c.args.self.now c.args.name.now c.deref.result.now c.in-Some.place c.index.result.now c.self.view_is c.deref.ensures.value c.in-Some.ensures.is c.in-Some.ensures.within c.index.ensures) c.can_hold.ensures
