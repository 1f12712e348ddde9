-- What a script's run keeps, column by column and cell by cell.
use Rattle.std.specs.Prelude.{◌≡◌, ℕ, ◌<◌, ◌≤◌, true, false, List, [], Option, Some, filter, filter_map, length}
use Rattle.std.specs.List.{list_all, list_any}
use Rattle.okws_base.specs.Past.{events_of, last_by}
use Rattle.okws_base.specs.Runs.{Each}
use Rattle.okws_base.specs.declared.journal.Entry.{Entry}
use Rattle.okws_plan.specs.declared.configuration.Config.{Config}
use Rattle.okws_plan.specs.declared.event.OkdEvent.{OkdEvent}
use Rattle.okws_plan.specs.declared.event.ProxyEvent.{ProxyEvent}
use Rattle.okws_plan.specs.declared.event.PubdEvent.{PubdEvent}
use Rattle.okws_plan.specs.declared.event.LogEvent.{LogEvent}
use Rattle.okws_plan.specs.declared.event.LauncherEvent.{LauncherEvent}
use Rattle.monitor_model.specs.declared.record.CellEvent.{CellEvent}
use Rattle.monitor_model.specs.declared.record.Own.{Own}
use Rattle.monitor_model.specs.Standing.{proxy_grant, pubd_grant, log_grant, up_at_okd}
use Rattle.monitor_model.specs.Columns.{OkdLaw, ProxyLaw, PubdLaw, LogLaw, faults}
use Rattle.monitor_model.specs.Launcher.{LauncherLaw, tries, is_dead, begun}
use Rattle.monitor_model.specs.Cell.{CellLaw, IsShownAbove, is_speaking, last_booted}
use Rattle.monitor_model.specs.Legal.{ShownFits, EventShownFits}
use Rattle.monitor_model.specs.Unharmed.{is_harm, IsHarmless, is_wanting}
use Rattle.monitor_model.specs.declared.record.End.{End}
use Rattle.monitor_model.specs.Merged.{are_below, cell_items, is_cell_below, okd_item, proxy_item, pubd_item, log_item, launcher_item, is_at_cell}
use Rattle.monitor_model.specs.Seen.{Seen, proxy_past}
use Rattle.monitor_model.specs.Stage.{Stage, Opened, Asked, stand}
use Rattle.monitor_model.specs.Played.{with_open}

-- A journal's entries are number 0's items, and nobody else's.
pub record IsAlone (E : Type 0) (J : List (Entry E)) (items : List E) : Type 0 where
  pub own : events_of 0 J ≡ items
  pub foreign : events_of 1 J ≡ []
  pub below : are_below 2 J ≡ true

-- okd: what is up is a declared service's, and an incarnation.
pub record OkdKept (C : Config) (J : List (Entry OkdEvent)) (items : List OkdEvent) : Type 0 where
  pub alone : IsAlone OkdEvent J items
  pub law : OkdLaw J
  pub up : (s k : ℕ) → up_at_okd J s ≡ Some k → (s < length C.services) × (0 < k)

-- A proxy: its law where nothing failed, and nothing was installed that wasn't begun.
pub record ProxyKept (C : Config) (seed : List ℕ) (p : ℕ) (J : List (Entry ProxyEvent)) (items : List ProxyEvent) (greatest : ℕ → ℕ) : Type 0 where
  pub alone : IsAlone ProxyEvent J items
  pub law : faults J ≡ 0 → ProxyLaw C seed p J
  pub last : (s : ℕ) → last_by proxy_grant J s ≤ greatest s

pub record PubdKept (C : Config) (J : List (Entry PubdEvent)) (items : List PubdEvent) (greatest : ℕ → ℕ) : Type 0 where
  pub alone : IsAlone PubdEvent J items
  pub law : PubdLaw C J
  pub last : (s : ℕ) → last_by pubd_grant J s ≤ greatest s

pub record LogKept (J : List (Entry LogEvent)) (items : List LogEvent) (greatest : ℕ → ℕ) : Type 0 where
  pub alone : IsAlone LogEvent J items
  pub law : LogLaw J
  pub last : (s : ℕ) → last_by log_grant J s ≤ greatest s

-- The launcher: nothing was tried, and nobody is dead.
pub record LauncherKept (C : Config) (J : List (Entry LauncherEvent)) (items : List LauncherEvent) : Type 0 where
  pub alone : IsAlone LauncherEvent J items
  pub law : LauncherLaw C J
  pub untried : (s : ℕ) → tries J s ≡ 0
  pub alive : (s : ℕ) → is_dead J s ≡ false

-- The journals.
pub record SeenKept (C : Config) (seed : List ℕ) (J : Seen) : Type 0 where
  pub okd : OkdKept C J.okd (filter_map okd_item J.own)
  pub proxies_are : length J.proxies ≡ length C.proxies
  pub proxies : (p : ℕ) → ProxyKept C seed p (proxy_past J.proxies p) (filter_map (proxy_item p) J.own) (begun J.launcher)
  pub pubd : PubdKept C J.pubd (filter_map pubd_item J.own) (begun J.launcher)
  pub oklogd : LogKept J.oklogd (filter_map log_item J.own) (begun J.launcher)
  pub launcher : LauncherKept C J.launcher (filter_map launcher_item J.own)
  pub remembered : list_any is_wanting J.own ≡ false

-- How a dialog of incarnation k may end: by a number above k that was begun, and by no fault.
abbrev pub EndFits : ℕ → ℕ → End → Type 0
EndFits k greatest how = ShownFits greatest how × (is_harm how ≡ false) × IsShownAbove k how

-- Cell s, with its open dialog, if any, where `greatest` was begun: its law, and nothing was booted or shown that wasn't begun.
pub record CellKept (s : ℕ) (opened : Option Opened) (J : List CellEvent) (items : List Own) (greatest : ℕ) : Type 0 where
  pub own : cell_items 0 0 s (with_open opened J) ≡ items
  pub foreign : cell_items 0 1 s (with_open opened J) ≡ []
  pub below : list_all (is_cell_below 2) (with_open opened J) ≡ true
  pub shown : Each (EventShownFits greatest) (with_open opened J)
  pub unharmed : Each IsHarmless (with_open opened J)
  pub law : CellLaw (with_open opened J)
  pub silent : is_speaking J ≡ false
  pub last : last_booted J ≤ greatest

-- A request goes to an incarnation of a declared service.
abbrev pub GoesFits : Config → Asked → Type 0
GoesFits C asked = (s k : ℕ) → asked.goes ≡ Some (s, k) → (s < length C.services) × (0 < k)

-- A state of a script's run.
pub record IsGood (C : Config) (seed : List ℕ) (S : Stage) : Type 0 where
  pub seen : SeenKept C seed S.seen
  pub stands_are : length S.stands ≡ length C.services
  pub cells : (s : ℕ) → CellKept s (stand S s).open_dialog (stand S s).past (filter (is_at_cell s) S.seen.own) (begun S.seen.launcher s)
  pub requests : Each (GoesFits C) S.requests
