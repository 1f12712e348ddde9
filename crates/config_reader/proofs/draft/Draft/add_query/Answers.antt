use Rattle.std.proofs.Common.{Some}
use Rattle.config_reader.specs.After.{with_query}
use Rattle.config_reader.proofs.Plans.{on_ok, plan_changed}
use Rattle.config_reader.proofs.draft.Draft.add_query.Goals as goal

pub returns-in-Some : goal.returns-in-Some
returns-in-Some c =
    on_ok c.add_query.result _ _ (λ changed. plan_changed _ c.args.self.now c.args.proxy.now (with_query c.args.number (Some c.args.statement)) c.deref.result.now c.in-Some.place c.index_mut.result.now c.add_query.new.self
    c.self.view_is c.deref.ensures.value c.in-Some.ensures.is c.in-Some.ensures.within c.index_mut.ensures.value changed) c.add_query.ensures
