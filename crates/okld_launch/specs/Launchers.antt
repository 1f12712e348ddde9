-- The launcher as contracts see it.
use Rattle.std.specs.Prelude.{◌≡◌, ◌<◌, ◌≤◌, ℕ, List, ◌∷◌, None, false, length, slice_index}
use Rattle.okws_base.specs.declared.journal.Entry.{Entry}
use Rattle.okws_base.specs.declared.limit.TheConstants.{MOST_PROXIES}
use Rattle.okws_plan.specs.declared.configuration.Config.{Config}
use Rattle.okws_plan.specs.declared.event.LauncherEvent.{LauncherEvent}
use Rattle.okws_plan.specs.declared.event.LauncherEvent.TheVariants as event
use Rattle.okws_outer.specs.Families.{Family}
use Rattle.monitor_model.specs.Launcher.{begun, tried}
use Rattle.launch_journal.specs.Launches.{Launches}
use Rattle.launch_crew.specs.Coming.{came_up}
use Rattle.launch_crew.specs.Crews.{CrewIs, Below, IsUp, NoneStands, up_of}
use Rattle.launch_crew.specs.Ended.{Attended}
use Rattle.okld_launch.specs.Causing.{Caused, MayFollow}
use Rattle.okld_launch.specs.Failures.{FailuresAreTold, FaultsAreTold}
use Rattle.okld_launch.specs.Kin.{AreKin}

-- Its journal, its crew, and the incarnation of each service that is up, 0 for none.
pub record LauncherIs : Type 0 where
  pub journal : Launches
  pub crew : CrewIs
  pub ups : List ℕ

-- The incarnation of s that is up, 0 for none.
abbrev pub up_in : LauncherIs → ℕ → ℕ
up_in l s = slice_index l.ups s

-- What was begun was begun for a cause, by what came up from the launcher's seats.
abbrev pub AreCaused : LauncherIs → Type 0
AreCaused l = Caused (came_up l.crew.sat) (up_in l) l.journal.past

-- The next incarnation of s has a cause, unless it is the first one.
abbrev pub MayLaunch : ℕ → LauncherIs → Type 0
MayLaunch s l = MayFollow (came_up l.crew.sat) l.journal.past l.journal.past s (begun l.journal.past s)

-- Each incarnation that was tried was begun.
abbrev pub TriedAreBegun : List (Entry LauncherEvent) → Type 0
TriedAreBegun J = (s k : ℕ) → begun J s < k → tried J s k ≡ false

-- What the launcher keeps of s: nothing was installed or booted that was not begun, the board shows the greatest begun, and what is up was begun and stands.
pub record IsKept (C : Config) (l : LauncherIs) (s : ℕ) : Type 0 where
  pub below : Below s (begun l.journal.past s) l.crew.sat l.crew.watch
  pub shown : s < length C.services → slice_index l.crew.sat.board s ≡ begun l.journal.past s
  pub begun_is : up_in l s ≤ begun l.journal.past s
  pub up : 0 < up_in l s → IsUp C s (up_in l s) l.crew
  pub down : up_in l s ≡ 0 → up_of l.crew.sat s ≡ None

-- The launcher of a site. There is room for the items of the run's end, at most one for each service.
pub record IsLauncher (C : Config) (l : LauncherIs) : Type 0 where
  pub config_is : l.journal.config ≡ C
  pub tried_are : TriedAreBegun l.journal.past
  pub ups_are : length l.ups ≡ length C.services
  pub spare : length C.services ≤ l.crew.room
  pub each : (s : ℕ) → IsKept C l s

-- It is the launcher of a run with this site and this seed, which began when `first` was told of its children: for each Failed of its journal, and for each dialog that ended by a fault of a link that is out, a fault was told since. What was begun was begun for a cause. Each child that runs has its link at its service's cell; each that was finished was given what it heard.
pub record IsPlaced (C : Config) (run_seed : List ℕ) (first : Family) (l : LauncherIs) (site : Config) (seed : List ℕ) : Type 0 where
  pub site_is : site ≡ C
  pub seed_is : seed ≡ run_seed
  pub few : length C.proxies ≤ MOST_PROXIES
  pub keeps : IsLauncher C l
  pub failed : FailuresAreTold first l.journal.past l.crew.family
  pub caused : AreCaused l
  pub attended : Attended l.crew
  pub kin : AreKin C run_seed first l.journal.past l.crew
  pub faults : FaultsAreTold first l.journal.past l.crew

-- It may be entered that incarnation k of s failed: a fault was told for it too.
pub record MayFail (first : Family) (s k : ℕ) (l : LauncherIs) : Type 0 where
  pub failed : FailuresAreTold first (record { worker = l.journal.holder; event = event.Failed s k } ∷ l.journal.past) l.crew.family
  pub faults : FaultsAreTold first (record { worker = l.journal.holder; event = event.Failed s k } ∷ l.journal.past) l.crew

-- Nothing of s is up or stands at a column.
pub record IsOut (C : Config) (s : ℕ) (l : LauncherIs) : Type 0 where
  pub down : up_in l s ≡ 0
  pub none : NoneStands C s l.crew.sat
