-- When a record is legal.
use Rattle.std.specs.Prelude.{◌≡◌, ℕ, ◌≤◌, List, Option, length}
use Rattle.okws_base.specs.Runs.{Each}
use Rattle.okws_plan.specs.declared.configuration.Config.{Config}
use Rattle.monitor_model.specs.declared.record.CellEvent.{CellEvent}
use Rattle.monitor_model.specs.declared.record.CellEvent.TheVariants as cell
use Rattle.monitor_model.specs.declared.record.End.{End}
use Rattle.monitor_model.specs.declared.record.End.TheVariants as end
use Rattle.monitor_model.specs.declared.record.Record.{Record}
use Rattle.monitor_model.specs.Seen.{proxy_past}
use Rattle.monitor_model.specs.Launcher.{LauncherLaw, begun}
use Rattle.monitor_model.specs.Cell.{CellLaw}
use Rattle.monitor_model.specs.Merged.{IsMerged, cell_past}
use Rattle.monitor_model.specs.Columns.{ProxyLaw, PubdLaw, LogLaw, OkdLaw, faults, WithinCount}

-- A number that superseded is at most the greatest begun.
abbrev pub ShownFits : ℕ → End → Type 0
ShownFits greatest (end.Superseded shown) = shown ≤ greatest
ShownFits greatest end.Reply = Unit {0}
ShownFits greatest end.BadFrame = Unit {0}
ShownFits greatest end.Ended = Unit {0}
ShownFits greatest end.LinkFault = Unit {0}
ShownFits greatest end.FrameLimit = Unit {0}
ShownFits greatest end.Starved = Unit {0}

-- The same of a cell's event.
abbrev pub EventShownFits : ℕ → CellEvent → Type 0
EventShownFits greatest (cell.Dialog d) = ShownFits greatest d.end
EventShownFits greatest (cell.Boot k) = Unit {0}
EventShownFits greatest cell.Retired = Unit {0}
EventShownFits greatest (cell.Missed worker wanted is) = Unit {0}
EventShownFits greatest (cell.Speaking worker items) = Unit {0}

-- A number that superseded a dialog of s is at most the greatest begun of s.
abbrev pub IsShownBegun : Record → ℕ → Type 0
IsShownBegun R s = Each (EventShownFits (begun R.launcher s)) (cell_past R s)

-- What holds of every run's journals and cells: they are merges of the own lists, and each keeps its law. `keepers p` is how much the count of proxy p's keeper rose, 0 where there is no store.
pub record IsLawful (C : Config) (seed : List ℕ) (keepers : ℕ → Option ℕ) (launcher : ℕ) (R : Record) : Type 0 where
  pub merged : IsMerged R launcher
  pub proxies_are : length R.proxies ≡ length C.proxies
  pub cells_are : length R.cells ≡ length C.services
  pub cells : (s : ℕ) → CellLaw (cell_past R s)
  pub shown : (s : ℕ) → IsShownBegun R s
  pub launchers : LauncherLaw C R.launcher
  pub okd : OkdLaw R.okd
  pub proxies : (p : ℕ) → ProxyLaw C seed p (proxy_past R.proxies p)
  pub pubd : PubdLaw C R.pubd
  pub oklogd : LogLaw R.oklogd
  pub faults_are : (p : ℕ) → WithinCount (keepers p) (faults (proxy_past R.proxies p))
