-- What a call answers that was started and done.
use Rattle.std.proofs.Common.{◌≡◌, ◌∙◌, ℕ, ◌+◌, List, ◌∷◌, refl, ap, sym, arith}
use Rattle.std.specs.Prelude.{Option, Some, None, IfSome, Ok}
use Rattle.okws_base.specs.declared.journal.Entry.{Entry}
use Rattle.okws_base.specs.declared.value.Value.{Value}
use Rattle.okws_base.specs.declared.denial.Rule.{Rule}
use Rattle.okws_plan.specs.Configuration.{tables}
use Rattle.okws_plan.specs.Meaning.{mean}
use Rattle.okws_plan.specs.declared.configuration.Config.{Config}
use Rattle.okws_plan.specs.declared.configuration.Query.{Query}
use Rattle.okws_plan.specs.declared.configuration.Table.{Table}
use Rattle.okws_plan.specs.declared.event.Call.{Call}
use Rattle.okws_plan.specs.declared.event.Mark.{Mark}
use Rattle.okws_plan.specs.declared.event.Mark.TheVariants.{Done, Fault}
use Rattle.okws_plan.specs.declared.event.ProxyEvent.{ProxyEvent}
use Rattle.okws_plan.specs.declared.event.ProxyEvent.TheVariants as event
use Rattle.okws_plan.specs.declared.statement.Answer.{Answer}
use Rattle.okws_outer.specs.Keeping.{Runs}
use Rattle.monitor_model.specs.Columns.{faults}
use Rattle.monitor_model.specs.Proxy.{within_frame, call_answer, call_denial, call_mean, call_verdict, query_mean, granted, rows}
use Rattle.started_call.specs.declared.started.Started.{Started}
use Rattle.started_call.specs.Starting.{verdict_of}

-- A call that breaks no rule and is done answers what its statement does.
pub done_answers : {P : Type 0} (of : P → Answer) (m : Mark × Started P) (s : Started P) (denial : Option Rule) (answer : Answer)
    → m ≡ (Done, s) → denial ≡ None → verdict_of of s ≡ within_frame answer → verdict_of of m.1 ≡ call_answer denial m.0 answer
done_answers of m s denial answer is free told = rw (is, free) told

-- Where rows are told, that is the verdict on them.
pub done_verdict : {P : Type 0} (of : P → Answer) (m : Mark × Started P) (s : Started P) (C : Config) (p : ℕ) (J : List (Entry ProxyEvent)) (call : Call) (q : Query) (kept : List Table) (args : List Value)
    (told now : Option (List (List (List Value)))) (answer : Answer)
    → m ≡ (Done, s) → call_denial C p J call ≡ None → granted C p call.service call.query ≡ Some q → verdict_of of s ≡ within_frame answer
    → kept ≡ tables C p → args ≡ call.args → IfSome told (λ T. T ≡ rows C p J) → Runs kept q.statement args told now (Ok answer)
    → IfSome told (λ _. verdict_of of m.1 ≡ call_verdict C p J call m.0)
done_verdict of m s C p J call q kept args None now answer is free found same kept_is args_are rows_are runs = tt
done_verdict of m s C p J call q kept args (Some T) now answer is free found same kept_is args_are rows_are runs =
    let meant : answer ≡ (call_mean C p J call (rows C p J)).0 =
    runs.0
    ∙ ap (λ (K : List Table). (mean K q.statement args T).0) kept_is
    ∙ ap (λ (a : List Value). (mean (tables C p) q.statement a T).0) args_are
    ∙ ap (λ (R : List (List (List Value))). (mean (tables C p) q.statement call.args R).0) rows_are
    ∙ ap (λ (f : Option Query). (query_mean C p f call.args (rows C p J)).0) (sym found) in
    done_answers of m s (call_denial C p J call) (call_mean C p J call (rows C p J)).0 is free (same ∙ ap within_frame meant)

-- ---- whether a call is marked Fault

one_more_not : (n : ℕ) → n + 1 ≡ n → ⊥
one_more_not n is = omega (arith, is)

-- where as many are marked as before, this one isn't
pub mark_done : (m : Mark) (call : Call) (w : ℕ) (J new : List (Entry ProxyEvent)) → new ≡ record { worker = w; event = event.Call call m } ∷ J → faults new ≡ faults J → m ≡ Done
mark_done Done call w J new is none = refl
mark_done Fault call w J new is none = absurd (one_more_not (faults J) (sym (ap faults is) ∙ none))

pub done_fault : (m : Mark) → m ≡ Done → m ≡ Fault → ⊥
done_fault m done fault = let no : Done ≡ Fault = sym done ∙ fault in cc
