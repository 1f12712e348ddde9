-- What a proxy's code decides before it runs a statement.
use Rattle.std.specs.Prelude.{ℕ, Bool, Option, Some, IfSome, nat_lt, not, if◌then◌else◌}
use Rattle.okws_base.specs.declared.denial.Rule.{Rule}
use Rattle.okws_base.specs.declared.denial.Rule.TheVariants as rule
use Rattle.okws_plan.specs.Configuration.{tables}
use Rattle.okws_plan.specs.declared.configuration.Config.{Config}
use Rattle.okws_plan.specs.declared.configuration.Query.{Query}
use Rattle.okws_plan.specs.declared.event.Call.{Call}
use Rattle.okws_plan.specs.declared.statement.Answer.{Answer}
use Rattle.okws_outer.specs.Keeping.{IsAnswerOf}
use Rattle.monitor_model.specs.Proxy.{granted, query_denial}

-- The rule that a call breaks first, where its incarnation is live or not and has opened so many sessions.
abbrev pub denial_at : Config → ℕ → Call → Bool → ℕ → Option Rule
denial_at C p call live count =
    if not (nat_lt call.session count) then Some rule.NoSession
    else if not live then Some rule.StaleToken
    else query_denial (granted C p call.service call.query) call.args

-- The query of the call, where it is granted, may answer so, whatever rows there are.
abbrev pub MayBeAnswered : Config → ℕ → Call → Answer → Type 0
MayBeAnswered C p call answer = IfSome (granted C p call.service call.query) (λ (query : Query). IsAnswerOf (tables C p) query.statement answer)
