-- All that a run's workers entered at the launcher leads on.
use Rattle.std.proofs.Common.{◌≡◌, ◌≤◌, ◌<◌, ◌+◌, ◌⊎◌, inl, inr, ℕ, Bool, true, false, List, [], None, length, sym, ap, ◌∙◌, subst, append-nil, arith}
use mathlib.Core.Logic.{dite}
use native.Mathlib.Decide.{ℕ_discrete}
use Rattle.std.proofs.lemmas.Bool.{cases_lt}
use Rattle.okws_base.specs.Turns.{of}
use Rattle.okws_base.specs.declared.journal.Entry.{Entry}
use Rattle.okws_plan.specs.declared.configuration.Config.{Config}
use Rattle.okws_plan.specs.declared.event.LauncherEvent.{LauncherEvent}
use Rattle.monitor_model.specs.declared.record.Own.{Own}
use Rattle.monitor_model.specs.declared.record.Record.{Record}
use Rattle.monitor_model.specs.Causes.{all_lead_on}
use Rattle.monitor_model.specs.Launcher.{begun}
use Rattle.monitor_model.specs.Pieces.{is_accept_item, is_ordered, worker_list}
use Rattle.named_columns.specs.Launched.{by_entry}
use Rattle.worker_lives.specs.Waiting.{leads_in, own_lead}
use Rattle.worker_lives.proofs.Others.{foreign_of}
use Rattle.worker_lives.proofs.Waiting.{own_beside, workers_lead}
use Rattle.okws_serve.specs.Lived.{ListIsPieces}
use Rattle.okws_serve.proofs.Whole.{list_is}

-- who entered nothing
none_lead : (w : ℕ) (m : ℕ → ℕ) (items : List Own) (J : List (Entry LauncherEvent)) → of by_entry w J ≡ [] → own_lead w m false items None J ≡ true
none_lead w m items J none = ap (own_lead w m false items None) (sym (append-nil J)) ∙ own_beside w m false items None J [] (foreign_of w J none)

pub all_lead : (C : Config) (R : Record) (ended : ℕ → ℕ → Bool) (n doors : ℕ) → length R.workers ≡ n → doors + 1 ≡ n → ((k : ℕ) → n ≤ k → of by_entry k R.launcher ≡ []) → ((w : ℕ) → w < doors → ListIsPieces C R ended is_ordered w) → ListIsPieces C R ended is_accept_item doors
    → all_lead_on R [] R.launcher ≡ true
all_lead C R ended n doors many next none at console = workers_lead R each
  where
    there : (w : ℕ) → w < n → leads_in R w (worker_list R w) ≡ true
    there w l = dite (ℕ_discrete w doors)
        (λ is. subst (λ (k : ℕ). leads_in R k (worker_list R k) ≡ true) (sym is) (subst (λ (items : List Own). leads_in R doors items ≡ true) (list_is R doors (omega arith)) console.lead))
        (λ not. subst (λ (items : List Own). leads_in R w items ≡ true) (list_is R w (omega arith)) (at w (omega arith)).lead)

    each : (w : ℕ) → leads_in R w (worker_list R w) ≡ true
    each w = by (cases_lt w n)
      where
        by : (w < n) ⊎ (n ≤ w) → leads_in R w (worker_list R w) ≡ true
        by (inl l) = there w l
        by (inr m) = none_lead w (begun R.launcher) (worker_list R w) R.launcher (none w m)
