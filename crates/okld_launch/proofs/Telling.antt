-- What a turn enters, as its launch tells it.
use Rattle.std.proofs.Common.{◌≡◌, ◌∙◌, ℕ, zero, suc, ◌+◌, ◌-◌, ◌*◌, ◌<◌, ◌≤◌, List, [], ◌∷◌, ◌++◌, Option, Some, None, length, refl, sym, ap, subst, arith, append_assoc, length-append}
use Rattle.std.specs.Prelude.{max, option_to_list}
use Rattle.okws_base.specs.declared.journal.Entry.{Entry}
use Rattle.okws_plan.specs.declared.configuration.Config.{Config}
use Rattle.okws_plan.specs.declared.event.LauncherEvent.{LauncherEvent}
use Rattle.okws_plan.specs.declared.event.LauncherEvent.TheVariants as event
use Rattle.okld_launch.specs.Entering.{entries_of, Enters, failed_from, events_of, most_entered}

-- ---- the oldest of the events

pub failed_more : (s k n : ℕ) → failed_from s k (suc n) ≡ failed_from s (k + 1) n ++ (event.Failed s k ∷ event.Begun s k ∷ [])
failed_more s k zero = let e : k + 0 ≡ k = omega arith in λ i. event.Failed s (e i) ∷ event.Begun s (e i) ∷ []
failed_more s k (suc n) =
    let e : k + suc n ≡ k + 1 + n = omega arith in
    λ i. event.Failed s (e i) ∷ event.Begun s (e i) ∷ failed_more s k n i

append_nil : {A : Type 0} (xs : List A) → xs ++ [] ≡ xs
append_nil [] = refl
append_nil (x ∷ xs) = ap (λ ys. x ∷ ys) (append_nil xs)

pub pop_attempt : (s k n : ℕ) (closing : Option LauncherEvent) → events_of None s k (suc n) closing ≡ events_of (Some (event.Failed s k)) s (k + 1) n closing ++ (event.Begun s k ∷ [])
pop_attempt s k n closing =
    ap (λ (es : List LauncherEvent). option_to_list closing ++ es) (append_nil (failed_from s k (suc n)) ∙ (failed_more s k n ∙ sym (append_assoc (failed_from s (k + 1) n) (event.Failed s k ∷ []) (event.Begun s k ∷ []))))
    ∙ sym (append_assoc (option_to_list closing) (failed_from s (k + 1) n ++ event.Failed s k ∷ []) (event.Begun s k ∷ []))

no_more : 0 < 0 → ⊥
no_more more = omega (arith, more)

one_less : (n : ℕ) → suc n - 1 ≡ n
one_less n = omega arith

pub pop_failed : (s k n : ℕ) (opening closing : Option LauncherEvent) → opening ≡ None → 0 < n → events_of opening s k n closing ≡ events_of (Some (event.Failed s k)) s (k + 1) (n - 1) closing ++ (event.Begun s k ∷ [])
pop_failed s k zero opening closing none more = absurd (no_more more)
pop_failed s k (suc n) opening closing none more =
    ap (λ o. events_of o s k (suc n) closing) none
    ∙ subst (λ m. events_of None s k (suc n) closing ≡ events_of (Some (event.Failed s k)) s (k + 1) m closing ++ (event.Begun s k ∷ [])) (sym (one_less n)) (pop_attempt s k n closing)

-- ---- how many they are

at_most_one : {A : Type 0} (x : Option A) → length (option_to_list x) ≤ 1
at_most_one None = omega arith
at_most_one (Some x) = omega arith

two_each : (s k n : ℕ) → length (failed_from s k n) ≡ 2 * n
two_each s k zero = refl
two_each s k (suc n) = let h : length (failed_from s k n) ≡ 2 * n = two_each s k n in omega (arith, h)

pub few_events : (C : Config) (opening : Option LauncherEvent) (s k n : ℕ) (closing : Option LauncherEvent) → n ≤ max C.retry 1 → length (events_of opening s k n closing) ≤ most_entered C
few_events C opening s k n closing few = omega (
  arith,
  few,
  at_most_one opening,
  at_most_one closing,
  two_each s k n,
  length-append (option_to_list closing) (failed_from s k n ++ option_to_list opening),
  length-append (failed_from s k n) (option_to_list opening),
)

-- ---- what they make of the journal

enters_append : (w : ℕ) (xs ys : List LauncherEvent) (J : List (Entry LauncherEvent)) → entries_of w (xs ++ ys) ++ J ≡ entries_of w xs ++ (entries_of w ys ++ J)
enters_append w [] ys J = refl
enters_append w (x ∷ xs) ys J = ap (λ (es : List (Entry LauncherEvent)). record { worker = w; event = x } ∷ es) (enters_append w xs ys J)

pub enters_on : (w : ℕ) (xs ys : List LauncherEvent) (I J K : List (Entry LauncherEvent)) → Enters w ys I J → Enters w xs J K → Enters w (xs ++ ys) I K
enters_on w xs ys I J K before after = after ∙ (ap (λ (es : List (Entry LauncherEvent)). entries_of w xs ++ es) before ∙ sym (enters_append w xs ys I))
