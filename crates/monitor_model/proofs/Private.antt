use Rattle.std.proofs.Common.{eq-eqb, ◌≡◌, ℕ, ◌+◌, Bool, true, false, List, [], ◌∷◌, ◌++◌, Option, refl, sym, ap, ◌∙◌, cond, subst, add-zero, not, Some}
use Rattle.std.specs.Prelude.{is_none, IsFalse, nat_lt}
use Rattle.std.proofs.lemmas.Bool.{eqb-true}
use Rattle.okws_base.specs.Past.{standing_by, standing_after}
use Rattle.okws_base.specs.declared.journal.Entry.{Entry}
use Rattle.okws_base.specs.declared.value.Token.{Token}
use Rattle.okws_base.specs.declared.denial.Rule.{Rule}
use Rattle.okws_base.specs.declared.denial.Rule.TheVariants as rule
use Rattle.okws_plan.specs.declared.configuration.Config.{Config}
use Rattle.okws_plan.specs.declared.event.Call.{Call}
use Rattle.okws_plan.specs.declared.event.ProxyEvent.{ProxyEvent}
use Rattle.okws_plan.specs.declared.event.ProxyEvent.TheVariants as event
use Rattle.monitor_model.specs.Standing.{proxy_grant, issued, issued_after}
use Rattle.monitor_model.specs.Proxy.{opened, opens, open_verdict, allowed, query_denial, granted}
use Rattle.monitor_model.specs.Own.{names, own_of}
use Rattle.monitor_model.specs.Cell.{heard, incarnation}
use Rattle.monitor_model.specs.Course.{heard_text}
use Rattle.monitor_model.specs.declared.record.CellEvent.{CellEvent}
use Rattle.monitor_model.specs.declared.record.CellEvent.TheVariants as cell
use Rattle.monitor_model.specs.declared.record.Dialog.{Dialog}

-- a foreign event leaves what stands, what was issued, and what was opened
foreign_standing : (e : ProxyEvent) (s : ℕ) (before : Option ℕ) → names s e ≡ false → standing_after (proxy_grant e) s before ≡ before
foreign_standing (event.Install t k token) s before h = rw h refl
foreign_standing (event.Revoke t k) s before h = rw h refl
foreign_standing (event.Open t k shown) s before h = refl
foreign_standing (event.Call call mark) s before h = refl

foreign_issued : (e : ProxyEvent) (s : ℕ) (t : Token) (before : Option ℕ) → names s e ≡ false → issued_after e s t before ≡ before
foreign_issued (event.Install u k token) s t before h = rw h refl
foreign_issued (event.Revoke u k) s t before h = refl
foreign_issued (event.Open u k shown) s t before h = refl
foreign_issued (event.Call call mark) s t before h = refl

foreign_opens : (e : ProxyEvent) (J : List (Entry ProxyEvent)) (count : ℕ → ℕ → ℕ) (s k : ℕ) → names s e ≡ false → opens e J count s k ≡ 0
foreign_opens (event.Install t j token) J count s k h = refl
foreign_opens (event.Revoke t j) J count s k h = refl
foreign_opens (event.Open t j shown) J count s k h = rw h refl
foreign_opens (event.Call call mark) J count s k h = refl

pub standing_own : (J : List (Entry ProxyEvent)) (s : ℕ) → standing_by proxy_grant (own_of s J) s ≡ standing_by proxy_grant J s
standing_own [] s = refl
standing_own (e ∷ J) s = by_name (names s e.event) refl (standing_own J s)
  where
    by_name : (b : Bool) → names s e.event ≡ b → standing_by proxy_grant (own_of s J) s ≡ standing_by proxy_grant J s → standing_by proxy_grant (cond b (e ∷ own_of s J) (own_of s J)) s ≡ standing_by proxy_grant (e ∷ J) s
    by_name true is before = ap (standing_after (proxy_grant e.event) s) before
    by_name false is before = before ∙ sym (foreign_standing e.event s (standing_by proxy_grant J s) is)

pub issued_own : (J : List (Entry ProxyEvent)) (s : ℕ) (t : Token) → issued (own_of s J) s t ≡ issued J s t
issued_own [] s t = refl
issued_own (e ∷ J) s t = by_name (names s e.event) refl (issued_own J s t)
  where
    by_name : (b : Bool) → names s e.event ≡ b → issued (own_of s J) s t ≡ issued J s t → issued (cond b (e ∷ own_of s J) (own_of s J)) s t ≡ issued (e ∷ J) s t
    by_name true is before = ap (issued_after e.event s t) before
    by_name false is before = before ∙ sym (foreign_issued e.event s t (issued J s t) is)

own_opens : (e : ProxyEvent) (J : List (Entry ProxyEvent)) (s k : ℕ) → names s e ≡ true → ((k : ℕ) → opened (own_of s J) s k ≡ opened J s k) → opens e (own_of s J) (opened (own_of s J)) s k ≡ opens e J (opened J) s k
own_opens (event.Install t j token) J s k is before = refl
own_opens (event.Revoke t j) J s k is before = refl
own_opens (event.Open t j shown) J s k is before =
    subst (λ (u : ℕ). opens (event.Open u j shown) (own_of s J) (opened (own_of s J)) s k ≡ opens (event.Open u j shown) J (opened J) s k) (sym (eqb-true _ _ is))
    (rw (issued_own J s shown, standing_own J s, before j) refl)
own_opens (event.Call call mark) J s k is before = refl

pub opened_own : (J : List (Entry ProxyEvent)) (s k : ℕ) → opened (own_of s J) s k ≡ opened J s k
opened_own [] s k = refl
opened_own (e ∷ J) s k = by_name (names s e.event) refl (opened_own J s)
  where
    by_name : (b : Bool) → names s e.event ≡ b → ((k : ℕ) → opened (own_of s J) s k ≡ opened J s k) → opened (cond b (e ∷ own_of s J) (own_of s J)) s k ≡ opened (e ∷ J) s k
    by_name true is before = ap (λ n. n + opens e.event (own_of s J) (opened (own_of s J)) s k) (before k) ∙ ap (λ n. opened J s k + n) (own_opens e.event J s k is before)
    by_name false is before = before k ∙ sym (rw (foreign_opens e.event J (opened J) s k is) (add-zero (opened J s k)))

verdict_own : (J : List (Entry ProxyEvent)) (s k : ℕ) (shown : Token) → open_verdict (own_of s J) s k shown ≡ open_verdict J s k shown
verdict_own J s k shown = rw (issued_own J s shown, standing_own J s, opened_own J s k) refl

pub open_is_private : (J K : List (Entry ProxyEvent)) (s k : ℕ) (shown : Token) → own_of s J ≡ own_of s K → open_verdict J s k shown ≡ open_verdict K s k shown
open_is_private J K s k shown same = sym (verdict_own J s k shown) ∙ ap (λ (P : List (Entry ProxyEvent)). open_verdict P s k shown) same ∙ verdict_own K s k shown

-- no session, or not live: not allowed either way
stale_by : (has_session : Bool) (rest : Option Rule) → is_none (cond (not has_session) (Some rule.NoSession) (cond (not false) (Some rule.StaleToken) rest)) ≡ false
stale_by true rest = refl
stale_by false rest = refl

pub revoked_is_not_allowed : (C : Config) (p w k : ℕ) (J : List (Entry ProxyEvent)) (call : Call) → IsFalse (allowed C p (record { worker = w; event = event.Revoke call.service k } ∷ J) call)
revoked_is_not_allowed C p w k J call =
    rw (eq-eqb call.service call.service refl) (stale_by (nat_lt call.session (opened (record { worker = w; event = event.Revoke call.service k } ∷ J) call.service call.incarnation))
    (query_denial (granted C p call.service call.query) call.args))

pub heard_grows : (C : Config) (seed : List ℕ) (s : ℕ) (J : List CellEvent) (d : Dialog)
    → heard C seed s (incarnation J) (cell.Dialog d ∷ J) ≡ heard C seed s (incarnation J) J ++ heard_text d.items
heard_grows C seed s J d = rw (eq-eqb (incarnation J) (incarnation J) refl) refl
