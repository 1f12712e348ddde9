-- What a worker has seen of each column, and its own items. A worker sees a column when it enters something there; what others enter meanwhile stands below its next entry.
use Rattle.std.specs.Prelude.{◌≡◌, ℕ, List, [], ◌∷◌, slice_index_or, slice_set}
use Rattle.okws_base.specs.Past.{Grows}
use Rattle.okws_base.specs.declared.journal.Entry.{Entry}
use Rattle.okws_plan.specs.declared.event.OkdEvent.{OkdEvent}
use Rattle.okws_plan.specs.declared.event.ProxyEvent.{ProxyEvent}
use Rattle.okws_plan.specs.declared.event.PubdEvent.{PubdEvent}
use Rattle.okws_plan.specs.declared.event.LogEvent.{LogEvent}
use Rattle.okws_plan.specs.declared.event.LauncherEvent.{LauncherEvent}
use Rattle.monitor_model.specs.declared.record.Own.{Own}
use Rattle.monitor_model.specs.declared.record.Own.TheVariants as own

-- What a worker has seen of each column, the newest first, and its own items.
pub record Seen : Type 0 where
  pub okd : List (Entry OkdEvent)
  pub proxies : List (List (Entry ProxyEvent))
  pub pubd : List (Entry PubdEvent)
  pub oklogd : List (Entry LogEvent)
  pub launcher : List (Entry LauncherEvent)
  pub own : List Own

-- The past of proxy p.
abbrev pub proxy_past : List (List (Entry ProxyEvent)) → ℕ → List (Entry ProxyEvent)
proxy_past proxies p = slice_index_or proxies p []

-- Worker w enters an event at a column, on the past `before`, which is what it had seen there and what others entered since. Everything else that it has seen stays.
abbrev pub AtOkd : ℕ → OkdEvent → Seen → List (Entry OkdEvent) → Seen → Type 0
AtOkd w event J before now =
    Grows w J.okd before × (now ≡ record J { okd = record { worker = w; event = event } ∷ before; own = own.Okd event ∷ J.own })

-- The same at proxy p.
abbrev pub AtProxy : ℕ → ℕ → ProxyEvent → Seen → List (Entry ProxyEvent) → Seen → Type 0
AtProxy w p event J before now =
    Grows w (proxy_past J.proxies p) before
    × (now ≡ record J { proxies = slice_set J.proxies p (record { worker = w; event = event } ∷ before); own = own.Proxy p event ∷ J.own })

-- The same at pubd.
abbrev pub AtPubd : ℕ → PubdEvent → Seen → List (Entry PubdEvent) → Seen → Type 0
AtPubd w event J before now =
    Grows w J.pubd before × (now ≡ record J { pubd = record { worker = w; event = event } ∷ before; own = own.Pubd event ∷ J.own })

-- The same at oklogd.
abbrev pub AtLog : ℕ → LogEvent → Seen → List (Entry LogEvent) → Seen → Type 0
AtLog w event J before now =
    Grows w J.oklogd before × (now ≡ record J { oklogd = record { worker = w; event = event } ∷ before; own = own.Oklogd event ∷ J.own })

-- The same at the launcher.
abbrev pub AtLauncher : ℕ → LauncherEvent → Seen → List (Entry LauncherEvent) → Seen → Type 0
AtLauncher w event J before now =
    Grows w J.launcher before × (now ≡ record J { launcher = record { worker = w; event = event } ∷ before; own = own.Launcher event ∷ J.own })

-- An item of the worker's that is no entry of a column.
abbrev pub noted : Seen → Own → Seen
noted J item = record J { own = item ∷ J.own }
