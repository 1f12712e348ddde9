-- What one turn at the launcher does: number n, which takes it, had seen these entries, and has seen those that it leaves.
use Rattle.std.specs.Prelude.{◌≡◌, ◌≤◌, ℕ, Bool, true, false, List, ◌∷◌, Option, length}
use Rattle.okws_base.specs.Turns.{GrowsBy}
use Rattle.okws_base.specs.declared.limit.TheConstants.{GREATEST_RETRY}
use Rattle.okws_plan.specs.declared.configuration.Config.{Config}
use Rattle.okws_plan.specs.declared.event.LauncherEvent.{LauncherEvent}
use Rattle.turn_lock.specs.Seats.{SeatIs}
use Rattle.launch_turns.specs.Deeds.{by_deed, entries}
use Rattle.okld_launch.specs.Ups.{crash_up, launch_up, launch_up_if, tend_up}
use Rattle.okld_launch.specs.Entering.{Enters, most_entered}
use Rattle.okld_launch.specs.Going.{GoesIf, GoesAsked, GoesCrashed, GoesTended}
use Rattle.okld_launch.specs.Launchers.{LauncherIs, IsLauncher}
use Rattle.launch_turns.specs.declared.deed.Deed.{Deed}
use Rattle.okld_launch.specs.declared.entered.TheConstants.{MOST_ENTERED}
use Rattle.okld_launch.specs.declared.answer.Launched.{Launched}
use Rattle.okld_launch.specs.declared.answer.Crashed.{Crashed}
use Rattle.okld_launch.specs.declared.answer.Tended.{Tended}

-- The launcher l that number n finds when its turn comes, where others may have entered since it saw these turns; the events that it enters, the newest first, whether the last of them is the Begun of an incarnation that came up, and whether a service was looked after; and the launcher that it leaves.
pub record InTurn (C : Config) (n : ℕ) (old : List Deed) (l : LauncherIs) (up tended : Bool) (events : List LauncherEvent) (after : LauncherIs) (new : List Deed) : Type 0 where
  pub found : IsLauncher C l
  pub deeds : List Deed
  pub deeds_are : entries deeds ≡ l.journal.past
  pub grows : GrowsBy by_deed n old deeds
  pub enters : Enters n events l.journal.past after.journal.past
  pub few : length events ≤ most_entered C
  pub most : C.retry ≤ GREATEST_RETRY → length events ≤ MOST_ENTERED
  pub leaves : IsLauncher C after
  pub seen_is : new ≡ record { worker = n; entered = events; up = up; tended = tended } ∷ deeds

-- A launch of s in a turn, which enters these events.
pub record LaunchesBy (C : Config) (s : ℕ) (old : SeatIs Deed) (answer : Option Launched) (events : List LauncherEvent) (new : SeatIs Deed) : Type 0 where
  pub before : LauncherIs
  pub after : LauncherIs
  pub turn : InTurn C old.number old.seen before (launch_up_if answer) false events after new.seen
  pub goes : GoesIf C old.number s before answer after

-- A launch that the operator asks for.
pub record RelaunchesBy (C : Config) (s : ℕ) (old : SeatIs Deed) (answer : Launched) (events : List LauncherEvent) (new : SeatIs Deed) : Type 0 where
  pub before : LauncherIs
  pub after : LauncherIs
  pub turn : InTurn C old.number old.seen before (launch_up answer) false events after new.seen
  pub goes : GoesAsked C old.number s before.journal.past before.crew.family answer after

-- A crash of incarnation k of s.
pub record ReportsBy (C : Config) (s k : ℕ) (old : SeatIs Deed) (answer : Crashed) (events : List LauncherEvent) (new : SeatIs Deed) : Type 0 where
  pub before : LauncherIs
  pub after : LauncherIs
  pub turn : InTurn C old.number old.seen before (crash_up answer) false events after new.seen
  pub goes : GoesCrashed C old.number s k before.journal.past before.crew.family answer after

-- Service s is looked after.
pub record TendsBy (C : Config) (s : ℕ) (old : SeatIs Deed) (answer : Tended) (events : List LauncherEvent) (new : SeatIs Deed) : Type 0 where
  pub before : LauncherIs
  pub after : LauncherIs
  pub turn : InTurn C old.number old.seen before (tend_up answer) true events after new.seen
  pub goes : GoesTended C old.number s before answer after
