-- How what a worker has seen goes on, where others enter meanwhile.
use Rattle.std.specs.Prelude.{◌≡◌, ℕ, List, [], ◌++◌, map, slice_index_or}
use Rattle.okws_base.specs.Turns.{up_to_own}
use Rattle.okws_base.specs.declared.journal.Entry.{Entry}
use Rattle.okws_plan.specs.declared.configuration.Config.{Config}
use Rattle.okws_plan.specs.declared.event.LauncherEvent.{LauncherEvent}
use Rattle.monitor_model.specs.declared.record.CellEvent.{CellEvent}
use Rattle.monitor_model.specs.Cell.{dialogs_of}
use Rattle.monitor_model.specs.Seen.{Seen}
use Rattle.monitor_model.specs.Worker.{Piece, nothing_seen}
use Rattle.worker_lives.specs.Leading.{Leads, spoken_in}

-- What a worker has seen: of the columns, with its own items; of the launcher's journal, at the end of its last turn there; and of each cell.
pub record Sights : Type 0 where
  pub columns : Seen
  pub launcher : List (Entry LauncherEvent)
  pub cells : List (List CellEvent)

-- What was seen of the cell of service s.
abbrev pub cell_seen : Sights → ℕ → List CellEvent
cell_seen J s = slice_index_or J.cells s []

-- What number w has seen of the columns and of the launcher's journal, of each up to its own last entry.
abbrev pub seen_by : ℕ → Sights → Seen
seen_by w J = record J.columns { launcher = up_to_own (λ (e : Entry LauncherEvent). e.worker) w J.launcher }

-- What worker w has seen went on by these pieces, the newest first; the dialogs that it has seen of itself at each cell are those that they tell, and those before.
pub record GoesOn (C : Config) (w : ℕ) (pieces : List Piece) (J K : Sights) : Type 0 where
  pub leads : Leads C w pieces (seen_by w J) (seen_by w K)
  pub dialogs : (s : ℕ) → dialogs_of w (cell_seen K s) ≡ spoken_in s pieces ++ dialogs_of w (cell_seen J s)

-- Nothing was seen or done at a site with so many proxies.
pub record IsBlank (proxies : ℕ) (J : Sights) : Type 0 where
  pub columns : J.columns ≡ nothing_seen proxies
  pub launcher : J.launcher ≡ []
  pub cells : (s : ℕ) → cell_seen J s ≡ []

-- Worker w's entries of these events, the newest first.
abbrev pub entries_by : ℕ → List LauncherEvent → List (Entry LauncherEvent)
entries_by w events = map (λ (event : LauncherEvent). record { worker = w; event = event }) events
