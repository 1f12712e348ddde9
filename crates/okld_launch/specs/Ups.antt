-- What came up in a turn at the launcher, and which child has ended, by what the turn enters and answers.
use Rattle.std.specs.Prelude.{ℕ, Bool, true, false, List, [], ◌∷◌, ◌&&◌, ◌||◌, Option, Some, None}
use Rattle.okws_plan.specs.declared.event.LauncherEvent.{LauncherEvent}
use Rattle.monitor_model.specs.Causes.{is_crashed_of}
use Rattle.monitor_model.specs.Launches.{is_begun_of}
use Rattle.okld_launch.specs.declared.answer.Launched.{Launched}
use Rattle.okld_launch.specs.declared.answer.Launched.TheVariants as launched
use Rattle.okld_launch.specs.declared.answer.Crashed.{Crashed}
use Rattle.okld_launch.specs.declared.answer.Crashed.TheVariants as crashed
use Rattle.okld_launch.specs.declared.answer.Tended.{Tended}
use Rattle.okld_launch.specs.declared.answer.Tended.TheVariants as tended

-- There is an event, and it passes the test.
abbrev pub is_one : (LauncherEvent → Bool) → Option LauncherEvent → Bool
is_one test None = false
is_one test (Some event) = test event

-- The newest of these events.
abbrev pub newest : List LauncherEvent → Option LauncherEvent
newest [] = None
newest (event ∷ events) = Some event

-- The oldest one.
abbrev pub oldest : List LauncherEvent → Option LauncherEvent
oldest [] = None
oldest (event ∷ []) = Some event
oldest (event ∷ (next ∷ events)) = oldest (next ∷ events)

-- What came up after a turn with these events, where it tells whether its last one is the Begun of an incarnation that did.
abbrev pub ups_after : Bool → List LauncherEvent → (ℕ → ℕ → Bool) → ℕ → ℕ → Bool
ups_after up events before s k = (up && is_one (is_begun_of s k) (newest events)) || before s k

-- Which child has ended, by what was asked, after such a turn, where it tells whether a Crashed that it begins with was told by the child.
abbrev pub ends_after : Bool → List LauncherEvent → (ℕ → ℕ → Bool) → ℕ → ℕ → Bool
ends_after tended events before s k = (tended && is_one (is_crashed_of s k) (oldest events)) || before s k

-- An incarnation was begun in a launch, and is up.
abbrev pub launch_up : Launched → Bool
launch_up (launched.Up k) = true
launch_up (launched.Dead n) = false
launch_up launched.Spent = false
launch_up launched.NoMemory = false

-- The same, if there was one.
abbrev pub launch_up_if : Option Launched → Bool
launch_up_if None = false
launch_up_if (Some answer) = launch_up answer

-- The same where a crash was told.
abbrev pub crash_up : Crashed → Bool
crash_up (crashed.Up k) = true
crash_up (crashed.Dead n) = false
crash_up crashed.Spent = false
crash_up (crashed.Later k) = false
crash_up crashed.NoMemory = false

-- The same where a service was looked after.
abbrev pub tend_up : Tended → Bool
tend_up tended.Alive = false
tend_up (tended.Up k) = true
tend_up (tended.Dead n) = false
tend_up tended.Spent = false
tend_up tended.NoMemory = false
