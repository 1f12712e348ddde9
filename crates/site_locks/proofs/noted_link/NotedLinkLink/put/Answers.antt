use Rattle.std.proofs.Common.{◌∙◌, sym}
use Rattle.site_locks.proofs.noted_link.NotedLinkLink.put.Goals as goal

pub invariant_of-self : goal.invariant_of-self
invariant_of-self g c = λ s k leads. c.self.invariant s k (sym c.put.ensures.link.whose ∙ leads)
