-- What was done under the launcher's number, and its own list.
use Rattle.std.specs.Prelude.{◌≡◌, ◌≤◌, ℕ, List, [], filter, filter_map, length, IsTrue}
use Rattle.std.specs.List.{list_all}
use Rattle.okws_base.specs.Past.{events_of}
use Rattle.okws_base.specs.declared.limit.TheConstants.{MOST_PROXIES, MOST_SERVICES}
use Rattle.okws_plan.specs.declared.configuration.Config.{Config}
use Rattle.monitor_model.specs.declared.record.Own.{Own}
use Rattle.monitor_model.specs.Merged.{okd_item, proxy_item, pubd_item, log_item, is_at_cell, cell_items, is_launch}
use Rattle.monitor_model.specs.Seen.{proxy_past}
use Rattle.site_cells.specs.Row.{CellsSeen, IsNew, seen_at}
use Rattle.site_locks.specs.Made.{fresh}
use Rattle.site_locks.specs.Sat.{Sat}
use Rattle.launch_crew.specs.Listed.{StandsByOwn}

-- What the number has seen of the columns and of the cells, its own items, the newest first, and for how many more there is room.
pub record Recorded : Type 0 where
  pub sat : Sat
  pub watch : CellsSeen
  pub own : List Own
  pub room : ℕ

-- In each column and each cell, the entries of number n, which launches, are its own items there, in order; it does nothing but launch.
pub record AreOwn (n : ℕ) (sat : Sat) (watch : CellsSeen) (items : List Own) : Type 0 where
  pub okd : events_of n sat.okd ≡ filter_map okd_item items
  pub proxies : (p : ℕ) → events_of n (proxy_past sat.proxies p) ≡ filter_map (proxy_item p) items
  pub pubd : events_of n sat.pubd ≡ filter_map pubd_item items
  pub oklogd : events_of n sat.oklogd ≡ filter_map log_item items
  pub cells : (s : ℕ) → cell_items n n s (seen_at watch s) ≡ filter (is_at_cell s) items
  pub launches : IsTrue (list_all is_launch items)

-- Number n launches at this site, and keeps its own list.
pub record IsRecorded (C : Config) (n : ℕ) (r : Recorded) : Type 0 where
  pub sat_number : r.sat.number ≡ n
  pub watch_number : r.watch.number ≡ n
  pub proxies_are : length r.sat.proxies ≡ length C.proxies
  pub cells_are : length r.watch.cells ≡ length C.services
  pub board_are : length C.services ≤ length r.sat.board
  pub few : length C.proxies ≤ MOST_PROXIES
  pub few_services : length C.services ≤ MOST_SERVICES
  pub own_is : AreOwn n r.sat r.watch r.own
  pub standing : StandsByOwn r.sat r.own

-- Nothing was seen or done under number n.
pub record IsUnused (C : Config) (n : ℕ) (r : Recorded) : Type 0 where
  pub sat_is : r.sat ≡ fresh (length C.proxies) n
  pub watch_is : IsNew (length C.services) n r.watch
  pub none : r.own ≡ []
