-- That each incarnation behind another one was begun for a cause: by what was entered, and by which incarnations came up.
use Rattle.std.specs.Prelude.{◌≡◌, ◌⊎◌, ◌<◌, ◌-◌, ℕ, Bool, true, false, List, [], ◌∷◌}
use Rattle.std.specs.List.{list_any}
use Rattle.okws_base.specs.declared.journal.Entry.{Entry}
use Rattle.okws_plan.specs.declared.event.LauncherEvent.{LauncherEvent}
use Rattle.okws_plan.specs.declared.event.LauncherEvent.TheVariants.{Begun, Failed, Crashed, Dead, Asked}
use Rattle.monitor_model.specs.Causes.{has_cause}
use Rattle.monitor_model.specs.Launcher.{begun}
use Rattle.monitor_model.specs.Launches.{is_failed_of}

-- Incarnation k of s failed, by these entries.
abbrev pub failed_in : List (Entry LauncherEvent) → ℕ → ℕ → Bool
failed_in J s k = list_any (λ (e : Entry LauncherEvent). is_failed_of s k e.event) J

-- It neither came up, where `ups` tells which did, nor failed.
pub record BrokeOff (ups : ℕ → ℕ → Bool) (all : List (Entry LauncherEvent)) (s k : ℕ) : Type 0 where
  pub up : ups s k ≡ false
  pub failed : failed_in all s k ≡ false

-- An incarnation of s may follow on k: there is none before it, or since k was begun there is a cause among these entries, or k broke off by all entries.
abbrev pub MayFollow : (ℕ → ℕ → Bool) → List (Entry LauncherEvent) → List (Entry LauncherEvent) → ℕ → ℕ → Type 0
MayFollow ups all J s k = (k ≡ 0) ⊎ ((has_cause s k J ≡ true) ⊎ BrokeOff ups all s k)

-- What was begun behind these entries might follow on the one before.
abbrev pub WasCaused : (ℕ → ℕ → Bool) → List (Entry LauncherEvent) → List (Entry LauncherEvent) → LauncherEvent → Type 0
WasCaused ups all J (Begun s k) = MayFollow ups all J s (k - 1)
WasCaused ups all J (Failed s k) = Unit {0}
WasCaused ups all J (Crashed s k) = Unit {0}
WasCaused ups all J (Dead s n) = Unit {0}
WasCaused ups all J (Asked s) = Unit {0}

-- The same of each of these entries.
abbrev pub AllCaused : (ℕ → ℕ → Bool) → List (Entry LauncherEvent) → List (Entry LauncherEvent) → Type 0
AllCaused ups all [] = Unit {0}
AllCaused ups all (e ∷ J) = WasCaused ups all J e.event × AllCaused ups all J

-- Each incarnation was begun for a cause; what was not begun neither came up nor failed; and the greatest begun of a service is the one that is up, by `now`, or another one may follow on it.
pub record Caused (ups : ℕ → ℕ → Bool) (now : ℕ → ℕ) (J : List (Entry LauncherEvent)) : Type 0 where
  pub all : AllCaused ups J J
  pub fresh : (s k : ℕ) → begun J s < k → BrokeOff ups J s k
  pub last : (s : ℕ) → (now s ≡ begun J s) ⊎ MayFollow ups J J s (begun J s)
