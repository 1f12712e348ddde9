-- What one step of a launch, which no other crate takes, leaves of the launcher.
use Rattle.std.specs.Prelude.{◌≡◌, ◌≤◌, ◌+◌, ◌∷◌, ℕ, Bool, false, List, Option, Some, None, Result, IfOk, IfErr, IsErrOf, OnOk, OnErr, length, option_to_list}
use Rattle.okws_base.specs.declared.journal.Entry.{Entry}
use Rattle.okws_base.specs.declared.limit.TheConstants.{MOST_PROXIES}
use Rattle.okws_plan.specs.Configuration.{cols}
use Rattle.okws_plan.specs.declared.configuration.Config.{Config}
use Rattle.okws_plan.specs.declared.event.LauncherEvent.{LauncherEvent}
use Rattle.okws_plan.specs.declared.event.LauncherEvent.TheVariants as event
use Rattle.okws_plan.specs.declared.event.OkdEvent.TheVariants as okd
use Rattle.okws_plan.specs.declared.script.Place.{Place}
use Rattle.okws_outer.specs.Families.{Family}
use Rattle.monitor_model.specs.declared.record.Own.TheVariants as own
use Rattle.monitor_model.specs.Causes.{is_crashed_of}
use Rattle.monitor_model.specs.Launcher.{begun, tries}
use Rattle.monitor_model.specs.Launches.{with_cleared, with_installs, with_revokes}
use Rattle.launch_journal.specs.Launches.{entered}
use Rattle.launch_crew.specs.Coming.{came_up}
use Rattle.launch_crew.specs.Crews.{IsQuiet, NoneStands, RunsAs, StandsAt, Under, child_of}
use Rattle.launch_crew.specs.Listed.{AreCounted, CellsGo, InstallsFirst, of_cells}
use Rattle.launch_crew.specs.Steps.{SameHands}
use Rattle.launch_crew.specs.Told.{FailsBy, TellsMore}
use Rattle.launch_crew.specs.declared.answer.Missed.{Missed}
use Rattle.launch_crew.specs.declared.answer.Missed.TheVariants as missed
use Rattle.okld_launch.specs.Causing.{BrokeOff}
use Rattle.okld_launch.specs.Children.{StaysAttended}
use Rattle.okld_launch.specs.Entering.{Enters, most_entered}
use Rattle.okld_launch.specs.Going.{Attempts, Closes, Ends, GivesUpAgain, Goes, with_entry}
use Rattle.okld_launch.specs.Kin.{Unstarted}
use Rattle.okld_launch.specs.Launchers.{LauncherIs, MayFail, up_in}
use Rattle.okld_launch.specs.Pieces.{BreaksOff, HasBooted, HasCleared, HasInstalled, IsClosed, attempt_ups, with_up}
use Rattle.okld_launch.specs.States.{GoesOn, LaunchIs}
use Rattle.okld_launch.specs.Ups.{is_one, launch_up, oldest, ups_after}
use Rattle.okld_launch.specs.declared.answer.Attempt.{Attempt}
use Rattle.okld_launch.specs.declared.answer.Crashed.{Crashed}
use Rattle.okld_launch.specs.declared.answer.Launched.{Launched}

-- ---- in the journal

-- Service s is given up after so many tries, or memory is refused.
pub record GivesUp {E : Type 0} (s : ℕ) (answer : Result ℕ E) (a b : LauncherIs) : Type 0 where
  pub tries : IfOk answer (λ n. n ≡ tries a.journal.past s)
  pub entered : IfOk answer (λ n. b.journal.past ≡ with_entry a.journal.holder (event.Dead s n) a.journal.past)
  pub err : OnErr answer (b.journal.past ≡ a.journal.past)
  pub same : b ≡ record a { journal = b.journal }
  pub holder : b.journal.holder ≡ a.journal.holder

-- ---- at the columns and the cells

-- Incarnation k of s is begun, and stands on the board.
pub record Begins (s k : ℕ) (first : Family) (a b : LauncherIs) : Type 0 where
  pub is : k ≡ begun a.journal.past s + 1
  pub journal : b.journal ≡ entered a.journal (event.Begun s k)
  pub under : Under s k b.crew
  pub fresh : BrokeOff (came_up b.crew.sat) b.journal.past s k
  pub family : b.crew.family ≡ a.crew.family
  pub unstarted : Unstarted s k first b.crew.family
  pub list : (b.crew.own ≡ a.crew.own) × (b.crew.watch ≡ a.crew.watch)
  pub running : b.crew.running ≡ a.crew.running
  pub room : b.crew.room ≡ a.crew.room

-- What stood of s is ended everywhere.
pub record Clears (C : Config) (s : ℕ) (a b : LauncherIs) : Type 0 where
  pub journal : b.journal ≡ a.journal
  pub quiet : IsQuiet C s b.crew
  pub down : up_in b s ≡ 0
  pub under : (k : ℕ) → Under s k a.crew → Under s k b.crew
  pub told : TellsMore a.crew.family b.crew.family
  pub started : b.crew.family.started ≡ a.crew.family.started
  pub stays : StaysAttended a.crew b.crew
  pub own : b.crew.own ≡ with_cleared C (of_cells b.crew.watch.cells) s a.crew.own
  pub behind : CellsGo a.crew.watch b.crew.watch
  pub counted : AreCounted a.crew.watch a.crew.own
  pub room : a.crew.room ≤ b.crew.room + (MOST_PROXIES + 4)

-- Incarnation k of s is installed at the columns of s, or at the first of them.
pub record InstallsAll {E : Type 0} (C : Config) (seed : List ℕ) (s k : ℕ) (answer : Result (Unit {0}) E) (a b : LauncherIs) : Type 0 where
  pub journal : b.journal ≡ a.journal
  pub ups : b.ups ≡ a.ups
  pub hands : SameHands a.crew b.crew
  pub stands : OnOk answer (StandsAt C s k b.crew.sat)
  pub added : OnOk answer (b.crew.own ≡ with_installs seed s k (cols C s) a.crew.own)
  pub front : OnErr answer ((rest : List Place) × InstallsFirst seed s k (cols C s) rest a.crew.own b.crew.own)
  pub room : a.crew.room ≤ b.crew.room + (MOST_PROXIES + 2)

-- What stands of s is revoked at the columns.
pub record RevokesAll (C : Config) (s : ℕ) (a b : LauncherIs) : Type 0 where
  pub journal : b.journal ≡ a.journal
  pub ups : b.ups ≡ a.ups
  pub none : NoneStands C s b.crew.sat
  pub cells : b.crew.watch ≡ a.crew.watch
  pub running : b.crew.running ≡ a.crew.running
  pub family : b.crew.family ≡ a.crew.family
  pub own : b.crew.own ≡ with_revokes C s a.crew.own

-- A child of s is started as incarnation k, and its cell is booted; or neither is left.
pub record StartsAs (s k : ℕ) (first : Family) (answer : Result (Unit {0}) Missed) (a b : LauncherIs) : Type 0 where
  pub journal : b.journal ≡ a.journal
  pub ups : b.ups ≡ a.ups
  pub columns : b.crew.sat ≡ a.crew.sat
  pub child : OnOk answer (RunsAs k (child_of b.crew s))
  pub cause : IsErrOf answer missed.Failed → FailsBy s k a.crew.family b.crew.family
  pub fault : IsErrOf answer missed.Failed → MayFail first s k b
  pub told : TellsMore a.crew.family b.crew.family
  pub stays : child_of a.crew s ≡ None → StaysAttended a.crew b.crew
  pub added : OnOk answer (b.crew.own ≡ own.Boot s k ∷ a.crew.own)
  pub kept : OnErr answer (b.crew.own ≡ a.crew.own)
  pub behind : CellsGo a.crew.watch b.crew.watch
  pub counted : AreCounted a.crew.watch a.crew.own
  pub room : a.crew.room ≤ b.crew.room + 1

-- Incarnation k of s is up, or memory is refused.
pub record ComesUp {E : Type 0} (s k : ℕ) (answer : Result (Unit {0}) E) (a b : LauncherIs) : Type 0 where
  pub journal : b.journal ≡ a.journal
  pub family : b.crew.family ≡ a.crew.family
  pub ok : OnOk answer (up_in b s ≡ k)
  pub err : OnErr answer (up_in b s ≡ 0)
  pub cells : b.crew.watch ≡ a.crew.watch
  pub running : b.crew.running ≡ a.crew.running
  pub added : OnOk answer (b.crew.own ≡ own.Okd (okd.Up s k) ∷ a.crew.own)
  pub kept : OnErr answer (b.crew.own ≡ a.crew.own)
  pub room : a.crew.room ≤ b.crew.room + 1

-- ---- a launch

-- What was done of the launch a is ended so, and leaves b; `on` tells what was known of a.
pub record ClosesSo (C : Config) (seed : List ℕ) (first : Family) (on : (ℕ → ℕ → Bool) → (ℕ → ℕ → Bool) → LaunchIs → Type 0) (a : LaunchIs) (answer : Attempt) (b : LauncherIs) : Type 0 where
  pub closes : Closes C a.launcher.journal.holder a answer b
  pub whole : (up ended : ℕ → ℕ → Bool) → on up ended a → IsClosed C seed first (attempt_ups a.service answer up) ended b
  pub holder : b.journal.holder ≡ a.launcher.journal.holder

-- One attempt is made at a launch of s.
pub record AttemptsSo (C : Config) (seed : List ℕ) (first : Family) (s : ℕ) (answer : Attempt) (a b : LauncherIs) : Type 0 where
  pub attempts : Attempts C a.journal.holder s a.journal.past a.crew.family answer b
  pub whole : (up ended : ℕ → ℕ → Bool) → IsClosed C seed first up ended a → IsClosed C seed first (attempt_ups s answer up) ended b
  pub holder : b.journal.holder ≡ a.journal.holder

-- A launch of s ends, since no other incarnation may begin, and enters this.
pub record EndsSo (C : Config) (seed : List ℕ) (first : Family) (s : ℕ) (answer : Launched) (last : Option LauncherEvent) (a b : LauncherIs) : Type 0 where
  pub ends : Ends C a.journal.holder s a.journal.past answer b
  pub enters : Enters a.journal.holder (option_to_list last) a.journal.past b.journal.past
  pub closing : (t j : ℕ) → is_one (is_crashed_of t j) last ≡ false
  pub down : launch_up answer ≡ false
  pub whole : (up ended : ℕ → ℕ → Bool) → IsClosed C seed first up ended a → IsClosed C seed first up ended b
  pub holder : b.journal.holder ≡ a.journal.holder

-- Service s is given up once more, in a turn that this opened.
pub record GivesUpSo (C : Config) (seed : List ℕ) (first : Family) (s : ℕ) (opening : LauncherEvent) (answer : Crashed) (events : List LauncherEvent) (a b : LauncherIs) : Type 0 where
  pub again : GivesUpAgain a.journal.holder s a.journal.past answer b
  pub enters : (J : List (Entry LauncherEvent)) → Enters a.journal.holder (option_to_list (Some opening)) J a.journal.past → Enters a.journal.holder events J b.journal.past
  pub few : length events ≤ most_entered C
  pub whole : (up ended : ℕ → ℕ → Bool) → IsClosed C seed first up ended a → IsClosed C seed first up ended b
  pub holder : b.journal.holder ≡ a.journal.holder

-- A turn that this opened goes on with a launch of s.
pub record GoesSo (C : Config) (seed : List ℕ) (first : Family) (s : ℕ) (opening : Option LauncherEvent) (answer : Launched) (events : List LauncherEvent) (a b : LauncherIs) : Type 0 where
  pub goes : Goes C a.journal.holder s a.journal.past a.crew.family answer b
  pub enters : (J : List (Entry LauncherEvent)) → Enters a.journal.holder (option_to_list opening) J a.journal.past → Enters a.journal.holder events J b.journal.past
  pub few : length events ≤ most_entered C
  pub whole : (up ended : ℕ → ℕ → Bool) → IsClosed C seed first up ended a → IsClosed C seed first (ups_after (launch_up answer) events up) ended b
  pub oldest : (t j : ℕ) → is_one (is_crashed_of t j) (oldest events) ≡ is_one (is_crashed_of t j) opening
  pub holder : b.journal.holder ≡ a.journal.holder

-- A turn leaves this, which goes so: whether an incarnation came up in it, and which child has ended by what it tells.
pub record TurnsSo (Goes : Type 0) (C : Config) (seed : List ℕ) (first : Family) (came : Bool) (ends : (ℕ → ℕ → Bool) → ℕ → ℕ → Bool) (events : List LauncherEvent) (a b : LauncherIs) : Type 0 where
  pub goes : Goes
  pub enters : Enters a.journal.holder events a.journal.past b.journal.past
  pub few : length events ≤ most_entered C
  pub whole : (up ended : ℕ → ℕ → Bool) → IsClosed C seed first up ended a → IsClosed C seed first (ups_after came events up) (ends ended) b
  pub holder : b.journal.holder ≡ a.journal.holder

-- The launch a goes on with its Installs, or breaks off.
pub record InstallsSo (C : Config) (seed : List ℕ) (first : Family) (a : LaunchIs) (answer : Result LaunchIs LaunchIs) : Type 0 where
  pub ok : IfOk answer (λ b. GoesOn a b)
  pub err : IfErr answer (λ b. GoesOn a b)
  pub way : IfOk answer (λ b. (up ended : ℕ → ℕ → Bool) → HasCleared C seed first up ended a → HasInstalled C seed first up ended b)
  pub broken : IfErr answer (λ b. (up ended : ℕ → ℕ → Bool) → HasCleared C seed first up ended a → BreaksOff C seed first up ended b)

-- The launch a ends with its incarnation up, or breaks off.
pub record ComesUpSo (C : Config) (seed : List ℕ) (first : Family) (a : LaunchIs) (answer : Result LauncherIs LaunchIs) : Type 0 where
  pub ok : IfOk answer (λ l. (l.journal ≡ a.launcher.journal) × (up_in l a.service ≡ a.incarnation))
  pub err : IfErr answer (λ b. GoesOn a b)
  pub whole : IfOk answer (λ l. (up ended : ℕ → ℕ → Bool) → HasBooted C seed first up ended a → IsClosed C seed first (with_up a.service a.incarnation up) ended l)
  pub broken : IfErr answer (λ b. (up ended : ℕ → ℕ → Bool) → HasBooted C seed first up ended a → BreaksOff C seed first up ended b)
