use Rattle.std.proofs.Common.{◌∙◌, ◌≤◌, length, sym, subst}
use Rattle.okws_base.specs.declared.limit.TheConstants.{MOST_PROXIES}
use Rattle.okws_plan.specs.declared.configuration.Config.{Config}
use Rattle.okld_launch.proofs.launcher.Launcher.tokens.Goals as goal

pub tokens_of-requires-clause-few : goal.tokens_of-requires-clause-few
tokens_of-requires-clause-few g c = subst (λ (x : Config). length x.proxies ≤ MOST_PROXIES) (sym (c.deref.ensures ∙ c.self.invariant.site_is)) c.self.invariant.few
