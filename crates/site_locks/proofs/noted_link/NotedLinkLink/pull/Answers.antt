use Rattle.std.proofs.Common.{◌∙◌, sym}
use Rattle.site_locks.proofs.noted_link.NotedLinkLink.pull.Goals as goal

pub invariant_of-self : goal.invariant_of-self
invariant_of-self g c = λ s k leads. c.self.invariant s k (sym c.pull.ensures.link.whose ∙ leads)
