-- When what a run's journals and cells hold is lawful.
use Rattle.std.specs.Prelude.{◌≡◌, ◌≢◌, ℕ, ◌<◌, List, [], ◌∷◌, Option, Some, None, length}
use Rattle.okws_base.specs.Runs.{Each}
use Rattle.okws_plan.specs.declared.configuration.Config.{Config}
use Rattle.monitor_model.specs.declared.record.CellEvent.{CellEvent}
use Rattle.monitor_model.specs.declared.record.CellEvent.TheVariants as cell
use Rattle.monitor_model.specs.declared.record.Dialog.{Dialog}
use Rattle.monitor_model.specs.declared.record.Own.TheVariants as own
use Rattle.monitor_model.specs.declared.record.Record.{Record}
use Rattle.monitor_model.specs.Cell.{incarnation, last_booted, IsShownAbove}
use Rattle.monitor_model.specs.Columns.{OkdLaw, ProxyLaw, PubdLaw, LogLaw, faults, WithinCount}
use Rattle.monitor_model.specs.Course.{IsDialog}
use Rattle.monitor_model.specs.Launcher.{LauncherLaw}
use Rattle.monitor_model.specs.Outside.{Outside}
use Rattle.monitor_model.specs.Placed.{EachFrom, seen_after}
use Rattle.monitor_model.specs.Talks.{Talk, talks}
use Rattle.monitor_model.specs.Worker.{next_dialog}

-- Dialogs and Retired stand only where the cell has an incarnation, and what superseded a dialog is above that; a Boot only where it has none, and above every Boot before. No dialog lacks its end.
abbrev pub StandsThere : List CellEvent → CellEvent → Type 0
StandsThere J (cell.Boot k) = (incarnation J ≡ 0) × (last_booted J < k)
StandsThere J cell.Retired = incarnation J ≢ 0
StandsThere J (cell.Missed worker wanted is) = Unit {0}
StandsThere J (cell.Dialog d) = (incarnation J ≢ 0) × IsShownAbove (incarnation J) d.end
StandsThere J (cell.Speaking worker items) = ⊥

-- Each Boot, Retired and dialog of a cell stands where it may.
abbrev pub AllStandThere : List CellEvent → Type 0
AllStandThere [] = Unit {0}
AllStandThere (e ∷ J) = AllStandThere J × StandsThere J e

-- A worker's dialog, with its incarnation, is one of the entries that follow it in the worker's list: what it heard are the verdicts on them, and its items, what was due in it as its link failed, and its entries fit its end.
abbrev pub FitsEntries : Config → Record → ℕ → Talk → Option (ℕ × Dialog) → Type 0
FitsEntries C R w t None = ⊥
FitsEntries C R w t (Some at) =
    (since left head content : List ℕ)
    × IsDialog C (record { worker = w; service = t.service; incarnation = at.0 }) since left at.1.due head content (seen_after R w (own.Dialog t.service ∷ t.earlier)) at.1.items at.1.end (seen_after R w t.until)

-- The dialog that this item of a worker's list stands for fits its entries: the i-th such item for cell s stands for the i-th dialog of that cell that names the worker.
abbrev pub IsFitting : Config → Record → ℕ → Talk → Type 0
IsFitting C R w t = FitsEntries C R w t (next_dialog R w t.service t.earlier)

-- Each journal keeps its column's law, and the launcher's its own; each cell's dialogs, Boots and Retireds stand where they may, and each dialog fits the entries that its worker made in it. A proxy has at most as many Faults as its keeper's count rose.
pub record JournalsAreLawful (C : Config) (seed : List ℕ) (T : Outside) (R : Record) : Type 0 where
  pub proxies_are : length R.proxies ≡ length C.proxies
  pub cells_are : length R.cells ≡ length C.services
  pub cells : EachFrom (λ s J. AllStandThere J) 0 R.cells
  pub dialogs : EachFrom (λ w items. Each (IsFitting C R w) (talks items)) 0 R.workers
  pub launcher : LauncherLaw C R.launcher
  pub okd : OkdLaw R.okd
  pub proxies : EachFrom (λ p J. ProxyLaw C seed p J) 0 R.proxies
  pub pubd : PubdLaw C R.pubd
  pub oklogd : LogLaw R.oklogd
  pub faults_are : EachFrom (λ p J. WithinCount (T.keepers p) (faults J)) 0 R.proxies
