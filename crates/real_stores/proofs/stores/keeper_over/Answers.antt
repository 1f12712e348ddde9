use Rattle.std.proofs.Common.{◌∙◌}
use Rattle.real_stores.proofs.stores.keeper_over.Goals as goal

pub returns-in-Ok-clause-filed : goal.returns-in-Ok-clause-filed
returns-in-Ok-clause-filed c = (c.in_ok-open.field-0, c.in_ok-open.ensures.opened, c.in-Ok.ensures.made)

pub returns-in-Ok-clause-unlimited : goal.returns-in-Ok-clause-unlimited
returns-in-Ok-clause-unlimited c = c.in-Ok.ensures.limit ∙ c.in_ok-open.ensures.unlimited
