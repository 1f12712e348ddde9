use Rattle.config_reader.specs.Broken.{can_hold}
use Rattle.config_reader.proofs.Plans.{plan_found}
use Rattle.config_reader.proofs.draft.Draft.can_hold.Goals as goal

pub returns-in-Some : goal.returns-in-Some
unfolding can_hold
returns-in-Some c =
    let plan = plan_found _ c.args.self.now c.args.proxy.now c.deref.result.now c.in-Some.place c.index.result.now c.self.view_is c.deref.ensures.value c.in-Some.ensures.is c.in-Some.ensures.within c.index.ensures in
    rw plan c.can_hold.ensures
