-- A worker that took turns at the launcher before it did anything else.
use Rattle.std.specs.Prelude.{◌≡◌, ◌⊎◌, ℕ, Bool, List, [], None, filter_map, length, map, IsTrue}
use Rattle.std.specs.List.{list_all}
use Rattle.okws_base.specs.Past.{events_of}
use Rattle.okws_base.specs.declared.journal.Entry.{Entry}
use Rattle.okws_plan.specs.declared.configuration.Config.{Config}
use Rattle.okws_plan.specs.declared.event.LauncherEvent.{LauncherEvent}
use Rattle.monitor_model.specs.declared.record.CellEvent.{CellEvent}
use Rattle.monitor_model.specs.declared.record.Own.{Own}
use Rattle.monitor_model.specs.declared.record.Own.TheVariants as own
use Rattle.monitor_model.specs.Merged.{launcher_item}
use Rattle.monitor_model.specs.Worker.{Piece, nothing_seen}
use Rattle.worker_lives.specs.Going.{Sights, GoesOn}
use Rattle.worker_lives.specs.Listing.{are_told, first_item}

-- The item is a launcher's event, or tells that memory was refused.
abbrev pub IsOfTurn : Own → Type 0
IsOfTurn item = (item ≡ own.NoMemory) ⊎ ((event : LauncherEvent) × (item ≡ own.Launcher event))

-- What was seen by who has these items, and this of the launcher's journal, and nothing else.
abbrev pub turned_alone : ℕ → List Own → List (Entry LauncherEvent) → List (List CellEvent) → Sights
turned_alone proxies items seen cells = record { columns = record (nothing_seen proxies) { own = items }; launcher = seen; cells = cells }

-- Who noted just what it entered at the launcher, in order, and besides that memory was refused, lived by pieces that begin with these items.
abbrev pub TurnsAloneAreLives : Type 0
TurnsAloneAreLives = (passes : Own → Bool) (C : Config) (w : ℕ) (items : List Own) (seen : List (Entry LauncherEvent)) (cells : List (List CellEvent)) → ((item : Own) → IsTrue (passes item) → IsOfTurn item)
    → IsTrue (list_all passes items) → events_of w seen ≡ filter_map launcher_item items
    → (pieces : List Piece) × GoesOn C w pieces (turned_alone (length C.proxies) [] [] cells) (turned_alone (length C.proxies) items seen cells) × (map first_item pieces ≡ items) × IsTrue (are_told None pieces)
