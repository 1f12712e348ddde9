-- The states of a launch: what is known of service s, of which incarnation k was begun.
use Rattle.std.specs.Prelude.{◌≡◌, ◌<◌, ◌≤◌, ◌+◌, ℕ, None, length}
use Rattle.okws_base.specs.declared.limit.TheConstants.{MOST_INCARNATIONS, MOST_PROXIES}
use Rattle.okws_plan.specs.declared.configuration.Config.{Config}
use Rattle.monitor_model.specs.Cell.{incarnation, last_booted}
use Rattle.monitor_model.specs.Launcher.{begun}
use Rattle.site_cells.specs.Row.{seen_at}
use Rattle.launch_crew.specs.Coming.{came_up}
use Rattle.launch_crew.specs.Crews.{Under, IsQuiet, StandsAt, RunsAs, child_of}
use Rattle.launch_crew.specs.Told.{TellsMore}
use Rattle.okws_outer.specs.Families.{Family}
use Rattle.okld_launch.specs.Causing.{BrokeOff}
use Rattle.okld_launch.specs.Kin.{Unstarted}
use Rattle.okld_launch.specs.Launchers.{LauncherIs, up_in}

-- The launcher in a launch, the service, and its incarnation.
pub record LaunchIs : Type 0 where
  pub launcher : LauncherIs
  pub service : ℕ
  pub incarnation : ℕ

-- The incarnation was begun, there is room to enter that it failed, and room for so many items of the launcher's list besides those of the run's end.
pub record IsBegun (C : Config) (items : ℕ) (a : LaunchIs) : Type 0 where
  pub service_is : a.service < length C.services
  pub counted : 0 < a.incarnation
  pub most : a.incarnation ≤ MOST_INCARNATIONS
  pub begun_is : a.incarnation ≡ begun a.launcher.journal.past a.service
  pub entry : 0 < a.launcher.journal.room
  pub room : items + length C.services ≤ a.launcher.crew.room

-- Nothing was installed or booted of it, no child was started as it since `first` was told of them, and it neither came up nor failed.
pub record IsStill (C : Config) (first : Family) (a : LaunchIs) : Type 0 where
  pub begins : IsBegun C (MOST_PROXIES + 4 + (MOST_PROXIES + 2 + (MOST_PROXIES + 4))) a
  pub under : Under a.service a.incarnation a.launcher.crew
  pub fresh : BrokeOff (came_up a.launcher.crew.sat) a.launcher.journal.past a.service a.incarnation
  pub unstarted : Unstarted a.service a.incarnation first a.launcher.crew.family

-- What was before it is ended everywhere.
pub record IsRevoked (C : Config) (first : Family) (a : LaunchIs) : Type 0 where
  pub begins : IsBegun C (MOST_PROXIES + 2 + (MOST_PROXIES + 4)) a
  pub under : Under a.service a.incarnation a.launcher.crew
  pub quiet : IsQuiet C a.service a.launcher.crew
  pub down : up_in a.launcher a.service ≡ 0
  pub unstarted : Unstarted a.service a.incarnation first a.launcher.crew.family

-- It stands at each column of the service, whose cell is empty and of which no child runs.
pub record IsInstalled (C : Config) (first : Family) (a : LaunchIs) : Type 0 where
  pub begins : IsBegun C (MOST_PROXIES + 4) a
  pub stands : StandsAt C a.service a.incarnation a.launcher.crew.sat
  pub empty : incarnation (seen_at a.launcher.crew.watch a.service) ≡ 0
  pub later : last_booted (seen_at a.launcher.crew.watch a.service) < a.incarnation
  pub child : child_of a.launcher.crew a.service ≡ None
  pub down : up_in a.launcher a.service ≡ 0
  pub unstarted : Unstarted a.service a.incarnation first a.launcher.crew.family

-- Its child was started, and its cell was booted.
pub record IsBooted (C : Config) (a : LaunchIs) : Type 0 where
  pub begins : IsBegun C (MOST_PROXIES + 3) a
  pub stands : StandsAt C a.service a.incarnation a.launcher.crew.sat
  pub child : RunsAs a.incarnation (child_of a.launcher.crew a.service)
  pub down : up_in a.launcher a.service ≡ 0

-- A step was refused.
pub record IsBroken (C : Config) (a : LaunchIs) : Type 0 where
  pub begins : IsBegun C (MOST_PROXIES + 2) a
  pub down : up_in a.launcher a.service ≡ 0

-- The same launch, of which nothing more was entered in the launcher's journal; nothing that was told of the children was forgotten.
pub record GoesOn (a b : LaunchIs) : Type 0 where
  pub service_is : b.service ≡ a.service
  pub incarnation_is : b.incarnation ≡ a.incarnation
  pub journal_is : b.launcher.journal ≡ a.launcher.journal
  pub told : TellsMore a.launcher.crew.family b.launcher.crew.family
