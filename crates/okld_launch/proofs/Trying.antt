-- Each entry leaves it so that what was tried was begun.
use Rattle.std.proofs.Common.{◌≡◌, ◌≢◌, ◌∙◌, ⊎_elim, ℕ, ◌<◌, ◌≤◌, Bool, true, false, List, [], ◌∷◌, refl, ap, arith, ne_eqb}
use Rattle.std.specs.Prelude.{◌==◌, ◌&&◌, max, if◌then◌else◌}
use Rattle.std.proofs.Math.Bool.{and-false}
use Rattle.std.proofs.lemmas.Bool.{cases_eq}
use Rattle.okws_base.specs.declared.journal.Entry.{Entry}
use Rattle.okws_plan.specs.declared.event.LauncherEvent.{LauncherEvent}
use Rattle.okws_plan.specs.declared.event.LauncherEvent.TheVariants as event
use Rattle.monitor_model.specs.Launcher.{begun, tried, tried_after}
use Rattle.okld_launch.specs.Launchers.{TriedAreBegun}

-- an event that begins nothing leaves it so
abbrev pub TriesBegun : List (Entry LauncherEvent) → LauncherEvent → Type 0
TriesBegun J e = (t k : ℕ) → begun J t < k → tried J t k ≡ false → tried_after e (begun J t) t k (tried J t k) ≡ false

off : (b before : Bool) → b ≡ false → before ≡ false → (if b then true else before) ≡ false
off b before is h = ap (λ (c : Bool). if c then true else before) is ∙ h

not_at : (j k g : ℕ) → j ≡ g → j ≡ k → g < k → ⊥
not_at j k g is at less = omega (arith, is, at, less)

other : (s t j k g : ℕ) → (s ≡ t → j ≡ g) → g < k → ((s == t) && (j == k)) ≡ false
other s t j k g is less = ⊎_elim
    (λ (same : s ≡ t). ap (λ (b : Bool). (s == t) && b) (ne_eqb j k (λ at. not_at j k g (is same) at less)) ∙ and-false (s == t))
    (λ (apart : s ≢ t). ap (λ (b : Bool). b && (j == k)) (ne_eqb s t apart))
    (cases_eq s t)

pub failed_begun : (J : List (Entry LauncherEvent)) (s j : ℕ) → j ≡ begun J s → TriesBegun J (event.Failed s j)
failed_begun J s j is t k less h = off ((s == t) && (j == k)) (tried J t k) (other s t j k (begun J t) (λ same. is ∙ ap (begun J) same) less) h

elsewhere : (j k g : ℕ) → g < k → ((j == k) && (j == g)) ≡ false
elsewhere j k g less = ⊎_elim
    (λ (at : j ≡ k). ap (λ (b : Bool). (j == k) && b) (ne_eqb j g (λ is. not_at j k g is at less)) ∙ and-false (j == k))
    (λ (apart : j ≢ k). ap (λ (b : Bool). b && (j == g)) (ne_eqb j k apart))
    (cases_eq j k)

pub crashed_begun : (J : List (Entry LauncherEvent)) (s j : ℕ) → TriesBegun J (event.Crashed s j)
crashed_begun J s j t k less h = off ((s == t) && ((j == k) && (j == begun J t))) (tried J t k) (ap (λ (b : Bool). (s == t) && b) (elsewhere j k (begun J t) less) ∙ and-false (s == t)) h

either_off : (b before : Bool) → before ≡ false → (if b then false else before) ≡ false
either_off true before h = refl
either_off false before h = h

pub asked_begun : (J : List (Entry LauncherEvent)) (s : ℕ) → TriesBegun J (event.Asked s)
asked_begun J s t k less h = either_off (s == t) (tried J t k) h

pub dead_begun : (J : List (Entry LauncherEvent)) (s n : ℕ) → TriesBegun J (event.Dead s n)
dead_begun J s n t k less h = h

at_least : (b : Bool) (k g : ℕ) → g ≤ (if b then max k g else g)
at_least true k g = omega arith
at_least false k g = omega arith

pub begun_tried : (w s k : ℕ) (J : List (Entry LauncherEvent)) → TriedAreBegun J → TriedAreBegun (record { worker = w; event = event.Begun s k } ∷ J)
begun_tried w s k J h = λ t j less. h t j (omega (arith, at_least (s == t) k (begun J t), less))

pub none_tried : (J : List (Entry LauncherEvent)) → J ≡ [] → TriedAreBegun J
none_tried J is = λ s k less. ap (λ I. tried I s k) is
