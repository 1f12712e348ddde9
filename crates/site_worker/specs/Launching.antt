-- A worker's turns at the launcher.
use Rattle.std.specs.Prelude.{◌≡◌, ℕ, Bool, true, false, List, ◌∷◌, ◌++◌, map}
use Rattle.okws_base.specs.Turns.{GrowsBy}
use Rattle.okws_base.specs.declared.journal.Entry.{Entry}
use Rattle.okws_plan.specs.declared.configuration.Config.{Config}
use Rattle.okws_plan.specs.declared.event.LauncherEvent.{LauncherEvent}
use Rattle.monitor_model.specs.declared.record.Own.{Own}
use Rattle.monitor_model.specs.declared.record.Own.TheVariants as own
use Rattle.monitor_model.specs.Seen.{Seen}
use Rattle.named_columns.specs.Launched.{by_entry}
use Rattle.launch_turns.specs.Deeds.{by_deed, entries}
use Rattle.okld_launch.specs.Entering.{Enters}
use Rattle.launch_turns.specs.Standing.{BegunBefore, UpsStand}
use Rattle.launch_turns.specs.Turns.{RelaunchesBy, ReportsBy, TendsBy}
use Rattle.launch_turns.specs.declared.deed.Deed.{Deed}
use Rattle.okld_launch.specs.declared.answer.Launched.{Launched}
use Rattle.okld_launch.specs.declared.answer.Launched.TheVariants as launched
use Rattle.okld_launch.specs.declared.answer.Crashed.{Crashed}
use Rattle.okld_launch.specs.declared.answer.Crashed.TheVariants as crashed
use Rattle.okld_launch.specs.declared.answer.Tended.{Tended}
use Rattle.okld_launch.specs.declared.answer.Tended.TheVariants as tended
use Rattle.site_worker.specs.Lives.{Life, StarvesWhere}

-- Memory was refused to a launch.
abbrev pub launch_starved : Launched → Bool
launch_starved (launched.Up k) = false
launch_starved (launched.Dead n) = false
launch_starved launched.Spent = false
launch_starved launched.NoMemory = true

-- The same where a crash was told.
abbrev pub crash_starved : Crashed → Bool
crash_starved (crashed.Up k) = false
crash_starved (crashed.Dead n) = false
crash_starved crashed.Spent = false
crash_starved (crashed.Later k) = false
crash_starved crashed.NoMemory = true

-- The same where a service was looked after.
abbrev pub tend_starved : Tended → Bool
tend_starved tended.Alive = false
tend_starved (tended.Up k) = false
tend_starved (tended.Dead n) = false
tend_starved tended.Spent = false
tend_starved tended.NoMemory = true

-- Events that were entered at the launcher, the newest first, were noted as own items, too.
abbrev pub with_launches : List LauncherEvent → Seen → Seen
with_launches events J = record J { own = map own.Launcher events ++ J.own }

-- Only the seat at the launcher may have seen more, and it may be shown more of okd; and these events were noted.
abbrev pub OnlyLauncher : List LauncherEvent → Life → Life → Type 0
OnlyLauncher events J K = K ≡ record J { launcher = record J.launcher { seen = K.launcher.seen }; seen = with_launches events J.seen; shown = K.shown }

-- A turn at the launcher: these events were entered there, the newest first, on what others had entered since, and each was noted. It is told of it whether the last of them is the Begun of an incarnation that came up, and whether a service was looked after.
pub record TakesTurn (events : List LauncherEvent) (J K : Life) : Type 0 where
  pub before : List (Entry LauncherEvent)
  pub grows : GrowsBy by_entry J.launcher.number (entries J.launcher.seen) before
  pub enters : Enters J.launcher.number events before (entries K.launcher.seen)
  pub only : OnlyLauncher events J K
  pub up : Bool
  pub tended : Bool
  pub deeds : List Deed
  pub others : GrowsBy by_deed J.launcher.number J.launcher.seen deeds
  pub did : K.launcher.seen ≡ record { worker = J.launcher.number; entered = events; up = up; tended = tended } ∷ deeds

-- The launcher was told that incarnation k of s has crashed; what the turn entered there was noted. The worker is shown okd then: all that came up in the turns that it has seen stands there. What it has seen on the board was begun before that turn.
pub record Reports (C : Config) (s k : ℕ) (J K : Life) : Type 0 where
  pub answer : Crashed
  pub events : List LauncherEvent
  pub mid : Life
  pub only : OnlyLauncher events J mid
  pub reports : ReportsBy C s k J.launcher answer events mid.launcher
  pub stand : UpsStand mid.launcher.seen mid.shown
  pub begun : BegunBefore C J.board mid.launcher.seen
  pub notes : StarvesWhere (crash_starved answer) mid K

-- Service s was looked after; what the turn entered at the launcher was noted. The worker is shown okd so too, and what it has seen on the board was begun so too.
pub record Tends (C : Config) (s : ℕ) (J K : Life) : Type 0 where
  pub answer : Tended
  pub events : List LauncherEvent
  pub mid : Life
  pub only : OnlyLauncher events J mid
  pub tends : TendsBy C s J.launcher answer events mid.launcher
  pub stand : UpsStand mid.launcher.seen mid.shown
  pub begun : BegunBefore C J.board mid.launcher.seen
  pub notes : StarvesWhere (tend_starved answer) mid K

-- The operator asked for service s; what the turn entered at the launcher was noted. The worker is shown okd so too.
pub record Asks (C : Config) (s : ℕ) (answer : Launched) (J K : Life) : Type 0 where
  pub events : List LauncherEvent
  pub mid : Life
  pub only : OnlyLauncher events J mid
  pub relaunches : RelaunchesBy C s J.launcher answer events mid.launcher
  pub stand : UpsStand mid.launcher.seen mid.shown
  pub notes : StarvesWhere (launch_starved answer) mid K
