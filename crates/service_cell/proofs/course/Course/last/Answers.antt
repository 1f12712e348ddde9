use Rattle.std.proofs.Common.{◌≡◌, ◌++◌, List, refl, subst}
use Rattle.monitor_model.specs.declared.record.Item.{Item}
use Rattle.service_cell.specs.Paced.{Paced}
use Rattle.service_cell.proofs.course.Course.last.Goals as goal

pub returns-clause-before : goal.returns-clause-before
returns-clause-before c =
    subst (λ (x : Paced). (before : List Item) × (x.past ≡ x.newest ++ before)) c.self.view_is (c.self.inside.journal.past, refl)
