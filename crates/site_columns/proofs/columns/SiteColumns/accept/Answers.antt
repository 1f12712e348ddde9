use Rattle.std.proofs.Common.{ap}
use Rattle.site_columns.proofs.Ways.{way_fits}
use Rattle.site_columns.proofs.columns.SiteColumns.accept.Goals as goal

pub returns-clause-goes : goal.returns-clause-goes
returns-clause-goes c =
    way_fits _ _ c.self.inside.okd c.hold.new.self _ _ _ c.self.invariant.okd_config (ap (λ v. v.config) c.self.view_is) c.self.invariant.rules_are.owners c.self.invariant.ups_are
    c.hold.ensures.all c.in_ok-answer.ensures.verdict
