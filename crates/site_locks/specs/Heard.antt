-- What a number has seen installed at the columns, and what it hears of others' notes.
use Rattle.std.specs.Prelude.{◌≡◌, ◌<◌, ℕ, List, length}
use Rattle.okws_base.specs.Turns.{Behind}
use Rattle.okws_base.specs.declared.journal.Entry.{Entry}
use Rattle.okws_plan.specs.declared.configuration.Config.{Config}
use Rattle.okws_plan.specs.declared.event.LogEvent.{LogEvent}
use Rattle.okws_plan.specs.declared.event.ProxyEvent.{ProxyEvent}
use Rattle.okws_plan.specs.declared.event.PubdEvent.{PubdEvent}
use Rattle.monitor_model.specs.Installed.{HasStood}
use Rattle.monitor_model.specs.Seen.{proxy_past}
use Rattle.monitor_model.specs.Standing.{log_grant, pubd_grant}
use Rattle.named_columns.specs.Asked.{IsInstalledAt}
use Rattle.site_locks.specs.Sat.{Sat, seen_of}

-- What was seen of the columns at which incarnations are installed.
pub record ColumnsSeen : Type 0 where
  pub proxies : List (List (Entry ProxyEvent))
  pub pubd : List (Entry PubdEvent)
  pub oklogd : List (Entry LogEvent)

-- What a number has seen of them.
abbrev pub columns_of : Sat → ColumnsSeen
columns_of s = record { proxies = s.proxies; pubd = s.pubd; oklogd = s.oklogd }

-- Incarnation k of s was installed at pubd, at oklogd, and at each proxy where s has a grant, as these pasts tell.
pub record AreInstalled (C : Config) (s k : ℕ) (a : ColumnsSeen) : Type 0 where
  pub proxies : (p : ℕ) → p < length C.proxies → IsInstalledAt C p (proxy_past a.proxies p) s k
  pub pubd : HasStood pubd_grant a.pubd s k
  pub oklogd : HasStood log_grant a.oklogd s k

-- Each of these pasts is what another one was before.
abbrev pub AreBehind : List (List (Entry ProxyEvent)) → List (List (Entry ProxyEvent)) → Type 0
AreBehind Js Ks = (p : ℕ) → Behind (proxy_past Js p) (proxy_past Ks p)

-- What was seen of the columns is seen still.
pub record ColumnsBehind (a b : ColumnsSeen) : Type 0 where
  pub proxies : AreBehind a.proxies b.proxies
  pub pubd : Behind a.pubd b.pubd
  pub oklogd : Behind a.oklogd b.oklogd

-- The number saw more at the proxies, which others had entered, and nothing else changed.
pub record SeesProxies (s now : Sat) : Type 0 where
  pub is : now ≡ record s { proxies = now.proxies }
  pub seen : seen_of now ≡ seen_of s
  pub many : length now.proxies ≡ length s.proxies
  pub behind : AreBehind s.proxies now.proxies

-- The same at pubd and oklogd too.
pub record SeesColumns (s now : Sat) : Type 0 where
  pub is : now ≡ record s { proxies = now.proxies; pubd = now.pubd; oklogd = now.oklogd }
  pub seen : seen_of now ≡ seen_of s
  pub behind : ColumnsBehind (columns_of s) (columns_of now)

-- What notes of a site's columns tell is seen.
pub record HasHeard (C : Config) (notes a : ColumnsSeen) : Type 0 where
  pub proxies : (p : ℕ) → p < length C.proxies → Behind (proxy_past notes.proxies p) (proxy_past a.proxies p)
  pub pubd : Behind notes.pubd a.pubd
  pub oklogd : Behind notes.oklogd a.oklogd
