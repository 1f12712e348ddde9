-- What the answers of a launch say.
use Rattle.std.proofs.Common.{◌≡◌, ◌∙◌, inl, inr, ⊎_elim, ℕ, suc, ◌+◌, ◌-◌, ◌<◌, List, None, refl, ap, subst, arith}
use Rattle.okws_base.specs.declared.journal.Entry.{Entry}
use Rattle.okws_base.specs.declared.limit.TheConstants.{MOST_INCARNATIONS}
use Rattle.okws_plan.specs.declared.configuration.Config.{Config}
use Rattle.okws_plan.specs.declared.event.LauncherEvent.{LauncherEvent}
use Rattle.okws_plan.specs.declared.event.LauncherEvent.TheVariants as event
use Rattle.okws_outer.specs.Families.{Family}
use Rattle.okws_outer.specs.declared.child.Ended.TheVariants.{Yes}
use Rattle.monitor_model.specs.Launcher.{begun}
use Rattle.launch_journal.specs.Launches.{Launches, Allows, entered, given_up}
use Rattle.launch_journal.specs.declared.next.Next.TheVariants as next
use Rattle.okld_launch.specs.Going.{with_entry, with_begun, with_failed, Closes, Attempts, Fell, Goes, GoesCrashed, Tends, GoesTended, AsksUp, crashed_as, tended_as}
use Rattle.okld_launch.specs.Launchers.{LauncherIs, IsOut, up_in}
use Rattle.okld_launch.specs.States.{LaunchIs, GoesOn}
use Rattle.launch_crew.specs.Told.{FailsBy}
use Rattle.launch_crew.proofs.Children.{fails_on}
use Rattle.okld_launch.specs.declared.answer.Attempt.{Attempt}
use Rattle.okld_launch.specs.declared.answer.Attempt.TheVariants as attempt
use Rattle.okld_launch.specs.declared.answer.Launched.{Launched}
use Rattle.okld_launch.specs.declared.answer.Launched.TheVariants as launched
use Rattle.okld_launch.proofs.Begins.{begun_here}

-- ---- an attempt

-- what an attempt does, by how its rest ends
pub attempts_as : (C : Config) (w s k : ℕ) (J : List (Entry LauncherEvent)) (f : Family) (m : LauncherIs) (answer : Attempt) (l : LauncherIs)
    → k ≡ begun J s + 1 → m.journal.past ≡ with_begun w s J → m.crew.family ≡ f → Closes C w (record { launcher = m; service = s; incarnation = k }) answer l → Attempts C w s J f answer l
attempts_as C w s k J f m (attempt.Up j) l is past family h = (h.0 ∙ is, h.1 ∙ past, h.2)
attempts_as C w s k J f m attempt.Failed l is past family h = (
  h.0 ∙ (λ i. with_entry w (event.Failed s (is i)) (past i)),
  subst (λ (x : ℕ × Family). FailsBy s x.0 x.1 l.crew.family) (λ i. (is i, family i)) h.1,
  h.2,
)
attempts_as C w s k J f m attempt.NoMemory l is past family h = inr (h.0 ∙ past, h.1)

-- ---- the rest of an attempt

closes_held : (C : Config) (w : ℕ) (a b : LaunchIs) (answer : Attempt) (l : LauncherIs) → GoesOn a b → Closes C w b answer l → Closes C w a answer l
closes_held C w a b (attempt.Up k) l on h = (h.0 ∙ on.incarnation_is, h.1 ∙ ap (λ (j : Launches). j.past) on.journal_is, subst (λ t. up_in l t ≡ k) on.service_is h.2)
closes_held C w a b attempt.Failed l on h = (
  h.0 ∙ (λ i. with_entry w (event.Failed (on.service_is i) (on.incarnation_is i)) ((on.journal_is i).past)),
  subst (λ (x : ℕ × ℕ). FailsBy x.0 x.1 a.launcher.crew.family l.crew.family) (λ i. (on.service_is i, on.incarnation_is i))
      (fails_on b.service b.incarnation a.launcher.crew.family b.launcher.crew.family l.crew.family on.told h.1),
  subst (λ t. up_in l t ≡ 0) on.service_is h.2,
)
closes_held C w a b attempt.NoMemory l on h = (h.0 ∙ ap (λ (j : Launches). j.past) on.journal_is, subst (λ t. IsOut C t l) on.service_is h.1)

pub closes_on : (C : Config) (a b : LaunchIs) (answer : Attempt) (l : LauncherIs) → GoesOn a b → Closes C b.launcher.journal.holder b answer l → Closes C a.launcher.journal.holder a answer l
closes_on C a b answer l on h = closes_held C a.launcher.journal.holder a b answer l on (subst (λ (w : ℕ). Closes C w b answer l) (ap (λ (j : Launches). j.holder) on.journal_is) h)

-- ---- attempts, one after the other

pub fell_more : (C : Config) (w s n : ℕ) (J : List (Entry LauncherEvent)) (f : Family) (M : List (Entry LauncherEvent)) (h : Family) (l : LauncherIs)
    → Fell C w s n J f M h → Allows C M s next.Begin → Attempts C w s M h attempt.Failed l → Fell C w s (suc n) J f l.journal.past l.crew.family
fell_more C w s n J f M h l fell allows a = (M, h, fell, allows, a.0, a.1)

one_more : (n : ℕ) → suc n ≡ n + 1
one_more n = omega arith

pub fell_next : (C : Config) (w s n : ℕ) (J : List (Entry LauncherEvent)) (f : Family) (M : List (Entry LauncherEvent)) (h : Family) (l : LauncherIs)
    → Fell C w s n J f M h → Allows C M s next.Begin → Attempts C w s M h attempt.Failed l → Fell C w s (n + 1) J f l.journal.past l.crew.family
fell_next C w s n J f M h l fell allows a = subst (λ m. Fell C w s m J f l.journal.past l.crew.family) (one_more n) (fell_more C w s n J f M h l fell allows a)

pub goes_up : (C : Config) (w s n k : ℕ) (J : List (Entry LauncherEvent)) (f : Family) (M : List (Entry LauncherEvent)) (h : Family) (l : LauncherIs)
    → Fell C w s n J f M h → Allows C M s next.Begin → Attempts C w s M h (attempt.Up k) l → Goes C w s J f (launched.Up k) l
goes_up C w s n k J f M h l fell allows a = record { failed = n; mid = M; told = h; fell = fell; ends = (allows, a.0, a.1, a.2) }

pub goes_refused : (C : Config) (w s n : ℕ) (J : List (Entry LauncherEvent)) (f : Family) (M : List (Entry LauncherEvent)) (h : Family) (l : LauncherIs)
    → Fell C w s n J f M h → Allows C M s next.Begin → Attempts C w s M h attempt.NoMemory l → Goes C w s J f launched.NoMemory l
goes_refused C w s n J f M h l fell allows a = record { failed = n; mid = M; told = h; fell = fell; ends = ⊎_elim (λ x. inl x) (λ x. inr (allows, x.0, x.1)) a }

pub begun_failed : (w s : ℕ) (J : List (Entry LauncherEvent)) → begun (with_failed w s J) s ≡ begun J s + 1
begun_failed w s J = begun_here w s (begun J s + 1) J refl

-- each attempt is of a greater incarnation
pub nearer : (C : Config) (w s : ℕ) (M : List (Entry LauncherEvent)) (h : Family) (l : LauncherIs) → Allows C M s next.Begin → Attempts C w s M h attempt.Failed l → MOST_INCARNATIONS - begun l.journal.past s < MOST_INCARNATIONS - begun M s
nearer C w s M h l allows a =
    let now : begun l.journal.past s ≡ begun M s + 1 = ap (λ J. begun J s) a.0 ∙ begun_failed w s M in
    let more : begun M s < MOST_INCARNATIONS = allows.0 in
    omega arith

-- ---- crashes, and services that are tended

pub crashed_of : (C : Config) (w s k : ℕ) (J : List (Entry LauncherEvent)) (f : Family) (answer : Launched) (l : LauncherIs) → k ≡ begun J s → given_up J s ≡ None → Goes C w s (with_entry w (event.Crashed s k) J) f answer l → GoesCrashed C w s k J f (crashed_as answer) l
crashed_of C w s k J f (launched.Up j) l is living h = (is, h)
crashed_of C w s k J f (launched.Dead n) l is living h = (is, inl (living, h))
crashed_of C w s k J f launched.Spent l is living h = (is, h)
crashed_of C w s k J f launched.NoMemory l is living h = inr (is, h)

pub tended_of : (C : Config) (w s : ℕ) (old : LauncherIs) (answer : Launched) (new : LauncherIs) → Tends C w s old answer new → GoesTended C w s old (tended_as answer) new
tended_of C w s old (launched.Up k) new h = h
tended_of C w s old (launched.Dead n) new h = inr h
tended_of C w s old launched.Spent new h = h
tended_of C w s old launched.NoMemory new h = inr h

-- the child of s, incarnation k, had ended: room was made, its crash entered, and it was launched
pub tends_crashed : (C : Config) (s k : ℕ) (old asked roomy opened : LauncherIs) (answer : Launched) (new : LauncherIs)
    → k ≡ up_in old s → 0 < k → given_up old.journal.past s ≡ None → AsksUp s old Yes asked
    → asked ≡ record old { crew = record old.crew { running = asked.crew.running } }
    → roomy ≡ record asked { journal = record asked.journal { room = roomy.journal.room } }
    → opened ≡ record roomy { journal = entered roomy.journal (event.Crashed s k) }
    → Goes C opened.journal.holder s opened.journal.past opened.crew.family answer new → Tends C old.journal.holder s old answer new
tends_crashed C s k old asked roomy opened answer new is positive living asks same rooms opens goes =
    let number : roomy.journal.holder ≡ old.journal.holder = ap (λ (l : LauncherIs). l.journal.holder) rooms ∙ ap (λ (l : LauncherIs). l.journal.holder) same in
    let before : roomy.journal.past ≡ old.journal.past = ap (λ (l : LauncherIs). l.journal.past) rooms ∙ ap (λ (l : LauncherIs). l.journal.past) same in
    let family : opened.crew.family ≡ old.crew.family = ap (λ (l : LauncherIs). l.crew.family) opens ∙ (ap (λ (l : LauncherIs). l.crew.family) rooms ∙ ap (λ (l : LauncherIs). l.crew.family) same) in
    let holder : opened.journal.holder ≡ old.journal.holder = ap (λ (l : LauncherIs). l.journal.holder) opens ∙ number in
    let past : opened.journal.past ≡ with_entry old.journal.holder (event.Crashed s (up_in old s)) old.journal.past =
    ap (λ (l : LauncherIs). l.journal.past) opens ∙ λ i. with_entry (number i) (event.Crashed s (is i)) (before i) in
    inr (
      record { up = subst (λ (n : ℕ). 0 < n) is positive; living = living; mid = asked; asked = asks },
      subst (λ (x : ℕ × List (Entry LauncherEvent) × Family). Goes C x.0 s x.1 x.2 answer new) (λ i. (holder i, past i, family i)) goes,
    )
