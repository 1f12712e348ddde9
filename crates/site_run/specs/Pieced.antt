-- That the launcher's list of a run is made of whole pieces.
use Rattle.std.specs.Prelude.{◌≡◌, ℕ, Bool, List, [], ◌++◌, length}
use Rattle.okws_base.specs.declared.journal.Entry.{Entry}
use Rattle.okws_plan.specs.declared.configuration.Config.{Config}
use Rattle.okws_plan.specs.declared.event.LauncherEvent.{LauncherEvent}
use Rattle.monitor_model.specs.declared.record.CellEvent.{CellEvent}
use Rattle.monitor_model.specs.declared.record.Own.{Own}
use Rattle.monitor_model.specs.declared.record.Record.{Record}
use Rattle.monitor_model.specs.Causes.{has_up}
use Rattle.monitor_model.specs.Launches.{Fate, IsEnding, all_pieces, attempts}
use Rattle.okws_outer.specs.Families.{Family}
use Rattle.site_cells.specs.Row.{CellsSeen}
use Rattle.launch_crew.specs.Crews.{CrewIs}
use Rattle.launch_crew.specs.Ended.{family_ended}
use Rattle.launch_crew.specs.Listed.{EndsPieces}
use Rattle.site_locks.specs.Sat.{Sat}
use Rattle.okld_launch.specs.Pieces.{AreTold, IsWhole}

-- A crew that was ended, of which no child runs.
abbrev pub ended_crew : Sat → CellsSeen → Family → List Own → CrewIs
ended_crew sat watch family items = record { sat = sat; watch = watch; running = []; family = family; own = items; room = 0 }

-- A launcher, of whose journal these are the entries, and whose number has seen this of the cells, made whole pieces, and then one Retired for each cell that had an incarnation.
pub record EndsWhole (C : Config) (seed : List ℕ) (up : ℕ → ℕ → Bool) (J : List (Entry LauncherEvent)) (cells : List (List CellEvent)) (items : List Own) : Type 0 where
  pub before : List Own
  pub whole : IsWhole C seed up J cells before
  pub ends : EndsPieces cells before items

-- The launcher's list of a record has one piece for each Begun of its journal, in order, and ends with one Retired for each cell that has an incarnation. Each piece is that of an attempt that failed where its Failed stands, that of one that came up where its Up stands in okd's journal, and else that of one that broke off.
pub record LaunchesAreWhole (C : Config) (seed : List ℕ) (R : Record) : Type 0 where
  pub fates : List Fate
  pub ending : List Own
  pub told : AreTold (has_up R) R.launcher (attempts R.launcher) fates
  pub list_is : R.launches ≡ ending ++ all_pieces C seed R (attempts R.launcher) fates
  pub ends : IsEnding R (all_pieces C seed R (attempts R.launcher) fates) ending

-- Since `first` was told of the children, that of incarnation k of s was finished, of which Yes was among the answers whether it has ended.
abbrev pub ended_among : Family → Family → ℕ → ℕ → Bool
ended_among first now s k = family_ended (length first.finished) now s k
