-- Each journal is a merge of the workers' own items.
use Rattle.std.specs.Prelude.{◌≡◌, ℕ, ◌<◌, Bool, true, false, List, [], ◌∷◌, ◌++◌, ◌==◌, Option, Some, None, filter, filter_map, length, if◌then◌else◌, slice_index_or, IsTrue, IsFalse, nat_lt, ◌&&◌}
use Rattle.std.specs.List.{list_all, list_any}
use Rattle.okws_base.specs.Past.{events_of}
use Rattle.okws_base.specs.declared.journal.Entry.{Entry}
use Rattle.okws_plan.specs.declared.event.OkdEvent.{OkdEvent}
use Rattle.okws_plan.specs.declared.event.OkdEvent.TheVariants as okd
use Rattle.okws_plan.specs.declared.event.ProxyEvent.{ProxyEvent}
use Rattle.okws_plan.specs.declared.event.ProxyEvent.TheVariants as proxy
use Rattle.okws_plan.specs.declared.event.PubdEvent.{PubdEvent}
use Rattle.okws_plan.specs.declared.event.PubdEvent.TheVariants as pubd
use Rattle.okws_plan.specs.declared.event.LogEvent.{LogEvent}
use Rattle.okws_plan.specs.declared.event.LogEvent.TheVariants as oklogd
use Rattle.okws_plan.specs.declared.event.LauncherEvent.{LauncherEvent}
use Rattle.monitor_model.specs.declared.record.Own.{Own}
use Rattle.monitor_model.specs.declared.record.Own.TheVariants as own
use Rattle.monitor_model.specs.declared.record.CellEvent.{CellEvent}
use Rattle.monitor_model.specs.declared.record.CellEvent.TheVariants as cell
use Rattle.monitor_model.specs.declared.record.Record.{Record}
use Rattle.monitor_model.specs.Seen.{proxy_past}

-- The item of a column, if it is one.
abbrev pub okd_item : Own → Option OkdEvent
okd_item (own.Okd e) = Some e
okd_item _ = None

-- The item of proxy p, if it is one.
abbrev pub proxy_item : ℕ → Own → Option ProxyEvent
proxy_item p (own.Proxy q e) = if q == p then Some e else None
proxy_item p _ = None

-- The item of pubd, if it is one.
abbrev pub pubd_item : Own → Option PubdEvent
pubd_item (own.Pubd e) = Some e
pubd_item _ = None

-- The item of oklogd, if it is one.
abbrev pub log_item : Own → Option LogEvent
log_item (own.Oklogd e) = Some e
log_item _ = None

-- The item of the launcher, if it is one.
abbrev pub launcher_item : Own → Option LauncherEvent
launcher_item (own.Launcher e) = Some e
launcher_item _ = None

-- The item stands in cell s too.
abbrev pub is_at_cell : ℕ → Own → Bool
is_at_cell s (own.Dialog t) = t == s
is_at_cell s (own.Missed t wanted is) = t == s
is_at_cell s (own.Boot t k) = t == s
is_at_cell s (own.Retired t) = t == s
is_at_cell s _ = false

-- What worker w did at cell s, where the launcher's number makes Boots and Retireds.
abbrev pub cell_items : ℕ → ℕ → ℕ → List CellEvent → List Own
cell_items launcher w s [] = []
cell_items launcher w s (cell.Boot k ∷ J) = if w == launcher then own.Boot s k ∷ cell_items launcher w s J else cell_items launcher w s J
cell_items launcher w s (cell.Retired ∷ J) = if w == launcher then own.Retired s ∷ cell_items launcher w s J else cell_items launcher w s J
cell_items launcher w s (cell.Missed v wanted is ∷ J) = if v == w then own.Missed s wanted is ∷ cell_items launcher w s J else cell_items launcher w s J
cell_items launcher w s (cell.Dialog d ∷ J) = if d.worker == w then own.Dialog s ∷ cell_items launcher w s J else cell_items launcher w s J
cell_items launcher w s (cell.Speaking worker items ∷ J) = if worker == w then own.Dialog s ∷ cell_items launcher w s J else cell_items launcher w s J

-- The journal of cell s.
abbrev pub cell_past : Record → ℕ → List CellEvent
cell_past R s = slice_index_or R.cells s []

-- In each journal the entries that name w are exactly w's items of that column, in order, and in each cell the dialogs, Misseds, Boots and Retireds of w.
pub record IsOwn (R : Record) (launcher w : ℕ) (items : List Own) : Type 0 where
  pub okd : events_of w R.okd ≡ filter_map okd_item items
  pub proxies : (p : ℕ) → events_of w (proxy_past R.proxies p) ≡ filter_map (proxy_item p) items
  pub pubd : events_of w R.pubd ≡ filter_map pubd_item items
  pub oklogd : events_of w R.oklogd ≡ filter_map log_item items
  pub launchers : events_of w R.launcher ≡ filter_map launcher_item items
  pub cells : (s : ℕ) → cell_items launcher w s (cell_past R s) ≡ filter (is_at_cell s) items

-- Only numbers below n occur.
abbrev pub are_below : {E : Type 0} → ℕ → List (Entry E) → Bool
are_below {E} n J = list_all (λ (e : Entry E). nat_lt e.worker n) J

-- An event of a cell names a worker's number below n, or none.
abbrev pub is_cell_below : ℕ → CellEvent → Bool
is_cell_below n (cell.Boot k) = true
is_cell_below n cell.Retired = true
is_cell_below n (cell.Missed v wanted is) = nat_lt v n
is_cell_below n (cell.Dialog d) = nat_lt d.worker n
is_cell_below n (cell.Speaking worker items) = nat_lt worker n

-- Only numbers below n occur in the record.
abbrev pub are_all_below : ℕ → Record → Bool
are_all_below n R =
    are_below n R.okd && (list_all (are_below n) R.proxies && (are_below n R.pubd && (are_below n R.oklogd
    && (are_below n R.launcher && list_all (λ (J : List CellEvent). list_all (is_cell_below n) J) R.cells))))

-- The item is an Install, Revoke, Up, Down, Boot or Retired.
abbrev pub is_okd_launch : OkdEvent → Bool
is_okd_launch (okd.Up s k) = true
is_okd_launch (okd.Down s k) = true
is_okd_launch (okd.Accept path) = false

-- The event of a proxy is an Install or a Revoke.
abbrev pub is_proxy_launch : ProxyEvent → Bool
is_proxy_launch (proxy.Install s k token) = true
is_proxy_launch (proxy.Revoke s k) = true
is_proxy_launch (proxy.Open s k shown) = false
is_proxy_launch (proxy.Call call mark) = false

-- The event of pubd is an Install or a Revoke.
abbrev pub is_pubd_launch : PubdEvent → Bool
is_pubd_launch (pubd.Install s k) = true
is_pubd_launch (pubd.Revoke s k) = true
is_pubd_launch (pubd.Publish t content) = false
is_pubd_launch (pubd.Drain s k) = false
is_pubd_launch (pubd.Get s k name) = false

-- The event of oklogd is an Install or a Revoke.
abbrev pub is_log_launch : LogEvent → Bool
is_log_launch (oklogd.Install s k) = true
is_log_launch (oklogd.Revoke s k) = true
is_log_launch (oklogd.Log s k text) = false

-- The item is an Install, Revoke, Up, Down, Boot or Retired.
abbrev pub is_launch : Own → Bool
is_launch (own.Okd e) = is_okd_launch e
is_launch (own.Proxy p e) = is_proxy_launch e
is_launch (own.Pubd e) = is_pubd_launch e
is_launch (own.Oklogd e) = is_log_launch e
is_launch (own.Launcher e) = false
is_launch (own.Dialog s) = false
is_launch (own.Missed s wanted is) = false
is_launch own.NoMemory = false
is_launch (own.Boot s k) = true
is_launch (own.Retired s) = true

-- The lists of all numbers: the workers', and last that of the launcher's number.
abbrev pub lists : Record → List (List Own)
lists R = R.workers ++ R.launches ∷ []

-- The list of number w.
abbrev pub list_of : Record → ℕ → List Own
list_of R w = slice_index_or (lists R) w []

-- Each journal is a merge of all lists, and no other number occurs.
pub record IsMerged (R : Record) (launcher : ℕ) : Type 0 where
  pub own : (w : ℕ) → w < length (lists R) → IsOwn R launcher w (list_of R w)
  pub below : IsTrue (are_all_below (length (lists R)) R)

-- Under the server the launcher's number makes all Install, Revoke, Up, Down, Boot and Retired, and nothing else.
pub record LaunchesAlone (R : Record) : Type 0 where
  pub workers : IsFalse (list_any (λ (items : List Own). list_any is_launch items) R.workers)
  pub launches : IsTrue (list_all is_launch R.launches)
