use Rattle.std.proofs.Common.{◌∙◌, sym, ap}
use Rattle.monitor_model.specs.Columns.{faults}
use Rattle.monitor_model.specs.Seen.{proxy_past}
use Rattle.site_columns.proofs.Rows.{all_faultless}
use Rattle.site_columns.proofs.proxies.Proxies.close.Goals as goal

pub returns-in_err-push-clause-faultless : goal.returns-in_err-push-clause-faultless
returns-in_err-push-clause-faultless c = λ p. ap (λ v. faults (proxy_past v.pasts p)) (sym c.self.view_is) ∙ all_faultless _ _ _ _ c.self.invariant p

pub returns-clause-faultless : goal.returns-clause-faultless
returns-clause-faultless c = λ p. ap (λ v. faults (proxy_past v.pasts p)) (sym c.self.view_is) ∙ all_faultless _ _ _ _ c.self.invariant p
