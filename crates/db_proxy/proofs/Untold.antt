-- What a keeper that tells no rows may answer to a call.
use Rattle.std.proofs.Common.{◌≡◌, ℕ, List, Option, Some, None, subst, sym}
use Rattle.std.specs.declared.result.Result.TheVariants.{Ok}
use Rattle.okws_base.specs.declared.value.Value.{Value}
use Rattle.okws_plan.specs.Configuration.{tables}
use Rattle.okws_plan.specs.declared.configuration.Config.{Config}
use Rattle.okws_plan.specs.declared.configuration.Query.{Query}
use Rattle.okws_plan.specs.declared.configuration.Table.{Table}
use Rattle.okws_plan.specs.declared.event.Call.{Call}
use Rattle.okws_plan.specs.declared.statement.Answer.{Answer}
use Rattle.okws_plan.specs.declared.statement.Statement.{Statement}
use Rattle.okws_outer.specs.Keeping.{Runs, IsAnswerOf}
use Rattle.monitor_model.specs.Proxy.{granted}
use Rattle.db_proxy.specs.Permit.{MayBeAnswered}

-- where none are told, a statement is answered what it may be
answers_untold : (kept : List Table) (st : Statement) (args : List Value) (told now : Option (List (List (List Value)))) (a : Answer) → Runs kept st args told now (Ok a) → told ≡ None → IsAnswerOf kept st a
answers_untold kept st args None now a ran none = ran.0
answers_untold kept st args (Some rows) now a ran none = absurd (cc)

-- a call that ran a granted query is answered what the query may answer
pub may_be_answered : (C D : Config) (p : ℕ) (call : Call) (query : Query) (kept : List Table) (args : List Value) (told now : Option (List (List (List Value)))) (a : Answer)
    → D ≡ C → granted D p call.service call.query ≡ Some query → kept ≡ tables C p → Runs kept query.statement args told now (Ok a) → told ≡ None → MayBeAnswered C p call a
may_be_answered C D p call query kept args told now a site is same ran none =
    let at : granted C p call.service call.query ≡ Some query = subst (λ (x : Config). granted x p call.service call.query ≡ Some query) site is in
    rw (at, sym same) (answers_untold kept query.statement args told now a ran none)
