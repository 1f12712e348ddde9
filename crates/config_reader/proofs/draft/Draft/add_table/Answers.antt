use Rattle.config_reader.specs.After.{with_table, table_of}
use Rattle.config_reader.proofs.Plans.{on_ok, plan_changed, none_changed}
use Rattle.config_reader.proofs.draft.Draft.add_table.Goals as goal

pub returns-in-Some : goal.returns-in-Some
returns-in-Some c =
    on_ok c.add_table.result _ _ (λ changed. plan_changed _ c.args.self.now c.args.proxy.now (with_table (table_of c.args.name.now c.args.columns.now)) c.deref.result.now c.in-Some.place c.index_mut.result.now c.add_table.new.self
    c.self.view_is c.deref.ensures.value c.in-Some.ensures.is c.in-Some.ensures.within c.index_mut.ensures.value changed) c.add_table.ensures

pub returns-in-None : goal.returns-in-None
returns-in-None c =
    none_changed _ c.args.self.now c.args.proxy.now (with_table (table_of c.args.name.now c.args.columns.now)) c.deref.result.now c.self.view_is c.deref.ensures.value c.in-None.ensures.is
