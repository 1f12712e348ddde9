use Rattle.std.proofs.Common.{◌∙◌, sym, ap, subst}
use Rattle.okws_outer.specs.Wire.{Wire}
use Rattle.site_locks.specs.Heard.{AreInstalled, columns_of}
use Rattle.site_locks.proofs.Heard.{told_installed}
use Rattle.site_locks.proofs.noted_link.NotedLink.tell.Goals as goal

pub invariant_of-self : goal.invariant_of-self
invariant_of-self g c = λ s k leads. subst (AreInstalled g.N.Numbered.site s k) (sym c.hear.ensures.notes) (c.self.invariant s k leads)

pub returns-clause-told : goal.returns-clause-told
returns-clause-told g c = λ s k leads.
    told_installed g.N.Numbered.site s k c.self.inside.notes (columns_of c.hear.new.self) c.hear.ensures.heard (c.self.invariant s k (ap (λ (w : Wire). w.whose) c.self.view_is ∙ leads))
