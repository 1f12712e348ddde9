use Rattle.config_reader.specs.Broken.{statement_at}
use Rattle.config_reader.proofs.Plans.{plan_found}
use Rattle.config_reader.proofs.draft.Draft.statement_at.Goals as goal

pub returns-in-Some : goal.returns-in-Some
unfolding statement_at
returns-in-Some c =
    let plan = plan_found _ c.args.self.now c.args.proxy.now c.deref.result.now c.in-Some.place c.index.result.now c.self.view_is c.deref.ensures.value c.in-Some.ensures.is c.in-Some.ensures.within c.index.ensures in
    rw (plan, ← c.tables.ensures) c.statement_of-in-Some.ensures
