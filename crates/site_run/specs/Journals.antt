-- What holds of the journals of a run. Number n launches; the numbers below it are the workers'.
use Rattle.std.specs.Prelude.{◌≡◌, ◌≤◌, ℕ, suc, ◌+◌, List, [], ◌∷◌, length}
use Rattle.okws_base.specs.Turns.{of}
use Rattle.okws_base.specs.declared.journal.Entry.{Entry}
use Rattle.okws_plan.specs.declared.configuration.Config.{Config}
use Rattle.okws_plan.specs.declared.event.ProxyEvent.{ProxyEvent}
use Rattle.monitor_model.specs.Booting.{AllFollow}
use Rattle.monitor_model.specs.Cell.{CellLaw}
use Rattle.monitor_model.specs.Columns.{OkdLaw, ProxyLaw, PubdLaw, LogLaw}
use Rattle.monitor_model.specs.Installed.{EachFollows, LogFollows, PubdFollows}
use Rattle.monitor_model.specs.Launcher.{LauncherLaw}
use Rattle.monitor_model.specs.Placed.{EachFrom}
use Rattle.monitor_model.specs.Sent.{AreSent}
use Rattle.monitor_model.specs.Standing.{okd_grant, proxy_grant, pubd_grant, log_grant}
use Rattle.monitor_model.specs.declared.record.CellEvent.{CellEvent}
use Rattle.monitor_model.specs.declared.record.Record.{Record}
use Rattle.monitor_model.specs.declared.sent.Sent.{Sent}
use Rattle.named_columns.specs.Counts.{capped, accepts, ups, publications, logged}
use Rattle.named_columns.specs.Launched.{by_entry, LaunchedBy}
use Rattle.site_cells.specs.Held.{by_event}
use Rattle.turn_lock.specs.Rows.{NoneFrom}
use Rattle.site_run.specs.declared.ended.Counts.{Counts}

-- Each entry of a proxy fits those before it, and what was installed and revoked names the launcher's number; for the proxies from p on.
abbrev pub AllProxies : Config → List ℕ → ℕ → ℕ → List (List (Entry ProxyEvent)) → Type 0
AllProxies C seed n p [] = Unit {0}
AllProxies C seed n p (J ∷ Js) = ProxyLaw C seed p J × LaunchedBy proxy_grant n J × AllProxies C seed n (suc p) Js

-- Each event of a cell fits those before it, and the links of its incarnations were given just what these heard; for the services from s on.
abbrev pub AllCells : Config → List ℕ → ℕ → List (List CellEvent) → List (List Sent) → Type 0
AllCells C seed s [] [] = Unit {0}
AllCells C seed s [] (x ∷ xs) = ⊥
AllCells C seed s (J ∷ Js) [] = ⊥
AllCells C seed s (J ∷ Js) (x ∷ xs) = CellLaw J × AreSent C seed s J x × AllCells C seed (suc s) Js xs

-- Each journal keeps its own law, whoever entered into it meanwhile, and what an incarnation asks stands above its Install: at each proxy where its service has a grant an Open and a Call, at pubd a Drain and a Get, at oklogd a Log.
pub record KeepLaws (C : Config) (seed : List ℕ) (n : ℕ) (R : Record) : Type 0 where
  pub okd : OkdLaw R.okd × LaunchedBy okd_grant n R.okd
  pub proxies : AllProxies C seed n 0 R.proxies
  pub follows : EachFrom (λ (p : ℕ) (J : List (Entry ProxyEvent)). AllFollow C p J) 0 R.proxies
  pub proxies_are : length R.proxies ≡ length C.proxies
  pub pubd : PubdLaw C R.pubd × LaunchedBy pubd_grant n R.pubd
  pub drains : EachFollows PubdFollows R.pubd
  pub oklogd : LogLaw R.oklogd × LaunchedBy log_grant n R.oklogd
  pub logs : EachFollows LogFollows R.oklogd
  pub launcher : LauncherLaw C R.launcher
  pub cells : AllCells C seed 0 R.cells R.sents
  pub cells_are : length R.cells ≡ length C.services

-- Each entry names a worker or the launcher; in the launcher's journal, a worker.
pub record NameNumbers (n : ℕ) (R : Record) : Type 0 where
  pub okd : (k : ℕ) → n + 1 ≤ k → of by_entry k R.okd ≡ []
  pub proxies : NoneFrom by_entry (n + 1) R.proxies
  pub pubd : (k : ℕ) → n + 1 ≤ k → of by_entry k R.pubd ≡ []
  pub oklogd : (k : ℕ) → n + 1 ≤ k → of by_entry k R.oklogd ≡ []
  pub cells : NoneFrom (by_event n) (n + 1) R.cells
  pub launcher : (k : ℕ) → n ≤ k → of by_entry k R.launcher ≡ []
  pub workers : length R.workers ≡ n

-- The counts are those of the record.
pub record AreCounts (C : Config) (R : Record) (c : Counts) : Type 0 where
  pub accepts_are : c.accepts ≡ capped (accepts R.okd)
  pub launches_are : c.launches ≡ capped (ups R.okd)
  pub publications_are : c.publications ≡ capped (publications R.pubd)
  pub logged_are : c.logged ≡ capped (logged C R.oklogd)
