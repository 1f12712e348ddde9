-- The attempts of a launch that failed: what they enter, and that they are no more than the tries that a service has.
use Rattle.std.proofs.Common.{◌≡◌, ◌≢◌, ◌∙◌, ◌⊎◌, inl, inr, ⊎_elim, ℕ, zero, suc, ◌+◌, ◌<◌, ◌≤◌, Bool, true, false, List, ◌++◌, Option, Some, None, length, refl, sym, ap, subst, arith, eq-eqb, ne_eqb}
use Rattle.std.specs.Prelude.{◌==◌, ◌&&◌, ◌||◌, nat_lt, not, max, if◌then◌else◌, option_to_list}
use Rattle.std.proofs.lemmas.Bool.{ltb-true}
use Rattle.okws_base.specs.declared.journal.Entry.{Entry}
use Rattle.okws_plan.specs.declared.configuration.Config.{Config}
use Rattle.okws_plan.specs.declared.event.LauncherEvent.{LauncherEvent}
use Rattle.okws_plan.specs.declared.event.LauncherEvent.TheVariants as event
use Rattle.okws_outer.specs.Families.{Family}
use Rattle.monitor_model.specs.Launcher.{begun, tried, tries, is_dead}
use Rattle.launch_journal.specs.Launches.{Allows}
use Rattle.launch_journal.specs.declared.next.Next.TheVariants as next
use Rattle.okld_launch.specs.Launchers.{LauncherIs, TriedAreBegun, IsOut}
use Rattle.okld_launch.specs.Going.{with_entry, with_begun, with_failed, Fell, Attempts}
use Rattle.okld_launch.specs.declared.answer.Attempt.TheVariants as attempt
use Rattle.okld_launch.specs.Entering.{Enters, failed_from, events_of, most_entered}
use Rattle.okld_launch.proofs.Begins.{begun_here, tried_on}
use Rattle.okld_launch.proofs.Trying.{begun_tried, failed_begun}
use Rattle.okld_launch.proofs.Told.{begun_failed}
use Rattle.okld_launch.proofs.Telling.{enters_on, few_events}

tried_failed : (w s : ℕ) (J : List (Entry LauncherEvent)) → TriedAreBegun J → TriedAreBegun (with_failed w s J)
tried_failed w s J h =
    let M : List (Entry LauncherEvent) = with_begun w s J in
    tried_on w (event.Failed s (begun J s + 1)) M (λ t. refl) (failed_begun M s (begun J s + 1) (sym (begun_here w s (begun J s + 1) J refl))) (begun_tried w s (begun J s + 1) J h)

tries_failed : (w s : ℕ) (J : List (Entry LauncherEvent)) → TriedAreBegun J → tries (with_failed w s J) s ≡ tries J s + 1
tries_failed w s J h =
    let new : tried J s (begun J s + 1) ≡ false = h s (begun J s + 1) (omega arith) in
    λ i. if (eq-eqb s s refl i) && not (new i) then tries J s + 1 else tries J s

-- ---- attempts, one after the other

pub fell_begun : (C : Config) (w s n : ℕ) (J : List (Entry LauncherEvent)) (f : Family) (K : List (Entry LauncherEvent)) (g : Family) → Fell C w s n J f K g → begun K s ≡ begun J s + n
fell_begun C w s zero J f K g h = ap (λ I. begun I s) h.0 ∙ omega arith
fell_begun C w s (suc n) J f K g h =
    let before : begun h.0 s ≡ begun J s + n = fell_begun C w s n J f h.0 h.1 h.2 in
    ap (λ I. begun I s) h.4 ∙ (begun_failed w s h.0 ∙ omega (arith, before))

pub fell_enters : (C : Config) (w s n : ℕ) (J : List (Entry LauncherEvent)) (f : Family) (K : List (Entry LauncherEvent)) (g : Family) → Fell C w s n J f K g → Enters w (failed_from s (begun J s + 1) n) J K
fell_enters C w s zero J f K g h = h.0
fell_enters C w s (suc n) J f K g h =
    let before : begun h.0 s ≡ begun J s + n = fell_begun C w s n J f h.0 h.1 h.2 in
    let here : begun h.0 s + 1 ≡ begun J s + 1 + n = omega (arith, before) in
    let I : Enters w (failed_from s (begun J s + 1) n) J h.0 = fell_enters C w s n J f h.0 h.1 h.2 in
    h.4 ∙ λ i. with_entry w (event.Failed s (here i)) (with_entry w (event.Begun s (here i)) (I i))

fell_tried : (C : Config) (w s n : ℕ) (J : List (Entry LauncherEvent)) (f : Family) (K : List (Entry LauncherEvent)) (g : Family) → TriedAreBegun J → Fell C w s n J f K g → TriedAreBegun K
fell_tried C w s zero J f K g tried h = subst TriedAreBegun (sym h.0) tried
fell_tried C w s (suc n) J f K g tried h = subst TriedAreBegun (sym h.4) (tried_failed w s h.0 (fell_tried C w s n J f h.0 h.1 tried h.2))

fell_tries : (C : Config) (w s n : ℕ) (J : List (Entry LauncherEvent)) (f : Family) (K : List (Entry LauncherEvent)) (g : Family) → TriedAreBegun J → Fell C w s n J f K g → tries K s ≡ tries J s + n
fell_tries C w s zero J f K g tried h = ap (λ I. tries I s) h.0 ∙ omega arith
fell_tries C w s (suc n) J f K g tried h =
    let before : tries h.0 s ≡ tries J s + n = fell_tries C w s n J f h.0 h.1 tried h.2 in
    ap (λ I. tries I s) h.4 ∙ (tries_failed w s h.0 (fell_tried C w s n J f h.0 h.1 tried h.2) ∙ omega (arith, before))

allowed : (a b c d : Bool) → a && ((b || c) && d) ≡ true → (b ≡ true) ⊎ (c ≡ true)
allowed true true c d h = inl refl
allowed true false true d h = inr refl
allowed true false false d h = absurd (cc)
allowed false b c d h = absurd (cc)

few_tries : (C : Config) (J : List (Entry LauncherEvent)) (s m n : ℕ) → tries J s ≡ m + n → Allows C J s next.Begin → suc n ≤ max C.retry 1
few_tries C J s m n is h = ⊎_elim
    (λ (b : (tries J s == 0) ≡ true). let none : tries J s ≡ 0 = grind (arith, b) in omega (arith, none, is))
    (λ (b : nat_lt (tries J s) C.retry ≡ true). let less : tries J s < C.retry = ltb-true (tries J s) C.retry b in omega (arith, less, is))
    (allowed (begun J s + 1 == begun J s + 1) (tries J s == 0) (nat_lt (tries J s) C.retry) (not (is_dead J s)) h.1)

pub fell_few : (C : Config) (w s n : ℕ) (J : List (Entry LauncherEvent)) (f : Family) (K : List (Entry LauncherEvent)) (g : Family) → TriedAreBegun J → Fell C w s n J f K g → n ≤ max C.retry 1
fell_few C w s zero J f K g tried h = omega arith
fell_few C w s (suc n) J f K g tried h = few_tries C h.0 s (tries J s) n (fell_tries C w s n J f h.0 h.1 tried h.2) h.3

-- ---- what a launch enters

pub few_told : (C : Config) (w s n : ℕ) (J : List (Entry LauncherEvent)) (f : Family) (M : List (Entry LauncherEvent)) (h : Family) (opening closing : Option LauncherEvent)
    → TriedAreBegun J → Fell C w s n J f M h → length (events_of opening s (begun J s + 1) n closing) ≤ most_entered C
few_told C w s n J f M h opening closing tried fell = few_events C opening s (begun J s + 1) n closing (fell_few C w s n J f M h tried fell)

-- what opened the turn, the attempts that failed, and what closed it
pub told_on : (C : Config) (w s n : ℕ) (J : List (Entry LauncherEvent)) (f : Family) (M : List (Entry LauncherEvent)) (h : Family) (opening closing : Option LauncherEvent) (I K : List (Entry LauncherEvent))
    → Fell C w s n J f M h → Enters w (option_to_list opening) I J → Enters w (option_to_list closing) M K → Enters w (events_of opening s (begun J s + 1) n closing) I K
told_on C w s n J f M h opening closing I K fell before after =
    enters_on w (option_to_list closing) (failed_from s (begun J s + 1) n ++ option_to_list opening) I M K
    (enters_on w (failed_from s (begun J s + 1) n) (option_to_list opening) I J M before (fell_enters C w s n J f M h fell)) after

pub up_told : (C : Config) (w s k : ℕ) (M : List (Entry LauncherEvent)) (h : Family) (l : LauncherIs) → Attempts C w s M h (attempt.Up k) l → Enters w (option_to_list (Some (event.Begun s k))) M l.journal.past
up_told C w s k M h l a = a.1 ∙ λ i. with_entry w (event.Begun s (sym a.0 i)) M

not_next : (a b k : ℕ) → a ≡ b → k ≡ b + 1 → a ≡ k → ⊥
not_next a b k is next at = omega (arith, is, next, at)

-- memory was refused, before the incarnation was begun or later
refused_as : (w s k : ℕ) (M K : List (Entry LauncherEvent)) → k ≡ begun M s + 1 → (K ≡ M) ⊎ (K ≡ with_begun w s M) → Enters w (option_to_list (if begun K s == k then Some (event.Begun s k) else None)) M K
refused_as w s k M K next (inl is) =
    let apart : begun K s ≢ k = λ at. not_next (begun K s) (begun M s) k (ap (λ I. begun I s) is) next at in
    subst (λ (b : Bool). Enters w (option_to_list (if b then Some (event.Begun s k) else None)) M K) (sym (ne_eqb (begun K s) k apart)) is
refused_as w s k M K next (inr is) =
    let here : begun K s ≡ k = ap (λ I. begun I s) is ∙ (begun_here w s (begun M s + 1) M refl ∙ sym next) in
    subst (λ (b : Bool). Enters w (option_to_list (if b then Some (event.Begun s k) else None)) M K) (sym (eq-eqb (begun K s) k here))
    (is ∙ λ i. with_entry w (event.Begun s (sym next i)) M)

pub refused_told : (C : Config) (w s k : ℕ) (M : List (Entry LauncherEvent)) (h : Family) (l : LauncherIs) → k ≡ begun M s + 1 → Attempts C w s M h attempt.NoMemory l
    → Enters w (option_to_list (if begun l.journal.past s == k then Some (event.Begun s k) else None)) M l.journal.past
refused_told C w s k M h l next a = refused_as w s k M l.journal.past next (⊎_elim (λ (x : l.journal.past ≡ M). inl x) (λ (x : (l.journal.past ≡ with_begun w s M) × IsOut C s l). inr x.0) a)

-- the same of what was told as such events
pub told_as : (C : Config) (w s n b : ℕ) (J : List (Entry LauncherEvent)) (f : Family) (M : List (Entry LauncherEvent)) (h : Family) (opening closing : Option LauncherEvent) (K : List (Entry LauncherEvent)) (events : List LauncherEvent)
    → events ≡ events_of opening s (b + 1) n closing → b ≡ begun J s → Fell C w s n J f M h → Enters w (option_to_list closing) M K
    → (I : List (Entry LauncherEvent)) → Enters w (option_to_list opening) I J → Enters w events I K
told_as C w s n b J f M h opening closing K events is first fell after I before =
    subst (λ es. Enters w es I K) (sym (is ∙ ap (λ k. events_of opening s (k + 1) n closing) first)) (told_on C w s n J f M h opening closing I K fell before after)

pub few_as : (C : Config) (w s n b : ℕ) (J : List (Entry LauncherEvent)) (f : Family) (M : List (Entry LauncherEvent)) (h : Family) (opening closing : Option LauncherEvent) (events : List LauncherEvent)
    → events ≡ events_of opening s (b + 1) n closing → b ≡ begun J s → TriedAreBegun J → Fell C w s n J f M h → length events ≤ most_entered C
few_as C w s n b J f M h opening closing events is first tried fell =
    subst (λ es. length es ≤ most_entered C) (sym (is ∙ ap (λ k. events_of opening s (k + 1) n closing) first)) (few_told C w s n J f M h opening closing tried fell)
