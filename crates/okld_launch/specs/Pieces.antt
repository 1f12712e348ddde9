-- That the launcher's list is made of whole pieces: of its journal's entries J, of what its number has seen of the cells, and of its items, each the newest first. `up` tells which incarnations came up.
use Rattle.std.specs.Prelude.{◌≡◌, ◌<◌, ◌≤◌, ℕ, suc, Bool, List, [], ◌∷◌, ◌==◌, ◌&&◌, ◌||◌, Option, Some, None, length, IsTrue, IsFalse}
use Rattle.std.specs.List.{list_any}
use Rattle.okws_base.specs.declared.journal.Entry.{Entry}
use Rattle.okws_plan.specs.Configuration.{cols}
use Rattle.okws_plan.specs.declared.configuration.Config.{Config}
use Rattle.okws_plan.specs.declared.event.LauncherEvent.{LauncherEvent}
use Rattle.okws_outer.specs.Families.{Family}
use Rattle.monitor_model.specs.declared.record.CellEvent.{CellEvent}
use Rattle.monitor_model.specs.declared.record.Own.{Own}
use Rattle.monitor_model.specs.declared.record.Record.{Record}
use Rattle.monitor_model.specs.Launcher.{begun}
use Rattle.monitor_model.specs.Launches.{Attempt, Fate, CameUp, Failed, BrokeOff, all_pieces, attempts, is_failed_of}
use Rattle.launch_crew.specs.Crews.{CrewIs}
use Rattle.launch_crew.specs.Ended.{Attended, tells_ended}
use Rattle.launch_crew.specs.Listed.{of_cells, stepped}
use Rattle.okld_launch.specs.Launchers.{LauncherIs}
use Rattle.okld_launch.specs.States.{LaunchIs}
use Rattle.okld_launch.specs.declared.answer.Attempt.{Attempt as Attempted}
use Rattle.okld_launch.specs.declared.answer.Attempt.TheVariants as attempt

-- Failed(s, k) stands among these entries.
abbrev pub has_failed_in : List (Entry LauncherEvent) → ℕ → ℕ → Bool
has_failed_in J s k = list_any (λ (e : Entry LauncherEvent). is_failed_of s k e.event) J

-- An attempt went so by what the entries say, and by what came up: its Failed stands where it failed, and not where it came up or broke off.
abbrev pub IsTold : (ℕ → ℕ → Bool) → List (Entry LauncherEvent) → Attempt → Fate → Type 0
IsTold up J a CameUp = IsTrue (up a.service a.incarnation) × IsFalse (has_failed_in J a.service a.incarnation)
IsTold up J a Failed = IsFalse (up a.service a.incarnation) × IsTrue (has_failed_in J a.service a.incarnation)
IsTold up J a (BrokeOff n) = IsFalse (up a.service a.incarnation) × IsFalse (has_failed_in J a.service a.incarnation)

-- Each attempt went so.
abbrev pub AreTold : (ℕ → ℕ → Bool) → List (Entry LauncherEvent) → List Attempt → List Fate → Type 0
AreTold up J [] [] = Unit {0}
AreTold up J [] (fate ∷ fates) = ⊥
AreTold up J (a ∷ more) [] = ⊥
AreTold up J (a ∷ more) (fate ∷ fates) = IsTold up J a fate × AreTold up J more fates

-- What came up was begun.
abbrev pub UpsAreBegun : (ℕ → ℕ → Bool) → List (Entry LauncherEvent) → Type 0
UpsAreBegun up J = (s k : ℕ) → begun J s < k → IsFalse (up s k)

-- Incarnation k of s came up, too.
abbrev pub with_up : ℕ → ℕ → (ℕ → ℕ → Bool) → ℕ → ℕ → Bool
with_up s k up t j = ((s == t) && (k == j)) || up t j

-- What failed was begun.
abbrev pub FailedAreBegun : List (Entry LauncherEvent) → Type 0
FailedAreBegun J = (s k : ℕ) → begun J s < k → IsFalse (has_failed_in J s k)

-- The list has one whole piece for each Begun, in order.
pub record IsWhole (C : Config) (seed : List ℕ) (up : ℕ → ℕ → Bool) (J : List (Entry LauncherEvent)) (cells : List (List CellEvent)) (items : List Own) : Type 0 where
  pub fates : List Fate
  pub told : AreTold up J (attempts J) fates
  pub failed_are : FailedAreBegun J
  pub ups_are : UpsAreBegun up J
  pub list_is : items ≡ all_pieces C seed (of_cells cells) (attempts J) fates

-- The attempt is of incarnation k of s.
abbrev pub is_of : ℕ → ℕ → Attempt → Bool
is_of s k a = (a.service == s) && (a.incarnation == k)

-- What an attempt at incarnation k of s, after so many of its steps, or before it ended what was there, makes of these items.
abbrev pub after_steps : Option ℕ → Config → List ℕ → Record → ℕ → ℕ → List Own → List Own
after_steps None C seed R s k items = items
after_steps (Some n) C seed R s k items = stepped C seed R s k n items

-- The last attempt is one at incarnation k of s, which no other was, and is under way after so many steps; the pieces of all others are whole.
pub record IsUnderWay (C : Config) (seed : List ℕ) (up : ℕ → ℕ → Bool) (s k : ℕ) (steps : Option ℕ) (J : List (Entry LauncherEvent)) (cells : List (List CellEvent)) (items : List Own) : Type 0 where
  pub worker : ℕ
  pub before : List Attempt
  pub fates : List Fate
  pub attempts_are : attempts J ≡ record { worker = worker; service = s; incarnation = k } ∷ before
  pub told : AreTold up J before fates
  pub apart : IsFalse (list_any (is_of s k) before)
  pub fails_not : IsFalse (has_failed_in J s k)
  pub up_not : IsFalse (up s k)
  pub begun_is : k ≤ begun J s
  pub failed_are : FailedAreBegun J
  pub ups_are : UpsAreBegun up J
  pub list_is : items ≡ after_steps steps C seed (of_cells cells) s k (all_pieces C seed (of_cells cells) before fates)

-- Which child has ended, by what was asked, is told of the crew, and not by a child that had been finished when `first` was told of them.
abbrev pub EndsAreTold : Family → (ℕ → ℕ → Bool) → CrewIs → Type 0
EndsAreTold first ended c = (length first.finished ≤ length c.family.finished) × ((s k : ℕ) → IsTrue (ended s k) → IsTrue (tells_ended (length first.finished) c s k))

-- No launch is under way: the launcher's list is made of whole pieces. Each child that runs has its cell, and `ended` tells of children that were asked since `first` was told of them and have ended, which is told of the crew.
pub record IsClosed (C : Config) (seed : List ℕ) (first : Family) (up ended : ℕ → ℕ → Bool) (l : LauncherIs) : Type 0 where
  pub whole : IsWhole C seed up l.journal.past l.crew.watch.cells l.crew.own
  pub attended : Attended l.crew
  pub told : EndsAreTold first ended l.crew

-- A launch is under way after so many of its steps, or before it ended what was there.
pub record IsOnWay (C : Config) (seed : List ℕ) (first : Family) (up ended : ℕ → ℕ → Bool) (steps : Option ℕ) (a : LaunchIs) : Type 0 where
  pub way : IsUnderWay C seed up a.service a.incarnation steps a.launcher.journal.past a.launcher.crew.watch.cells a.launcher.crew.own
  pub attended : Attended a.launcher.crew
  pub told : EndsAreTold first ended a.launcher.crew

-- It is begun, and did nothing yet.
abbrev pub HasBegun : Config → List ℕ → Family → (ℕ → ℕ → Bool) → (ℕ → ℕ → Bool) → LaunchIs → Type 0
HasBegun C seed first up ended a = IsOnWay C seed first up ended None a

-- It has ended what was there.
abbrev pub HasCleared : Config → List ℕ → Family → (ℕ → ℕ → Bool) → (ℕ → ℕ → Bool) → LaunchIs → Type 0
HasCleared C seed first up ended a = IsOnWay C seed first up ended (Some 0) a

-- It has installed at each column of the service too.
abbrev pub HasInstalled : Config → List ℕ → Family → (ℕ → ℕ → Bool) → (ℕ → ℕ → Bool) → LaunchIs → Type 0
HasInstalled C seed first up ended a = IsOnWay C seed first up ended (Some (length (cols C a.service))) a

-- It has booted the cell too.
abbrev pub HasBooted : Config → List ℕ → Family → (ℕ → ℕ → Bool) → (ℕ → ℕ → Bool) → LaunchIs → Type 0
HasBooted C seed first up ended a = IsOnWay C seed first up ended (Some (suc (length (cols C a.service)))) a

-- It goes no further.
abbrev pub BreaksOff : Config → List ℕ → Family → (ℕ → ℕ → Bool) → (ℕ → ℕ → Bool) → LaunchIs → Type 0
BreaksOff C seed first up ended a = (n : ℕ) × IsOnWay C seed first up ended (Some n) a

-- What came up after an attempt at a launch of s, by its answer.
abbrev pub attempt_ups : ℕ → Attempted → (ℕ → ℕ → Bool) → ℕ → ℕ → Bool
attempt_ups s (attempt.Up k) up = with_up s k up
attempt_ups s attempt.Failed up = up
attempt_ups s attempt.NoMemory up = up
