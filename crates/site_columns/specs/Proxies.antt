-- The columns of all proxies as contracts see them.
use Rattle.std.specs.Prelude.{◌≡◌, ℕ, ◌+◌, true, List, [], ◌∷◌, map, slice_set, is_some}
use Rattle.okws_base.specs.declared.journal.Entry.{Entry}
use Rattle.okws_plan.specs.declared.configuration.Config.{Config}
use Rattle.okws_plan.specs.declared.event.ProxyEvent.{ProxyEvent}
use Rattle.db_proxy.specs.Seen.{Seen}
use Rattle.monitor_model.specs.Columns.{faults}
use Rattle.monitor_model.specs.Seen.{proxy_past}

-- The site's configuration, the seed of the tokens that are issued, the number that new entries name, and the entries of each proxy's column, the newest first.
pub record Pasts : Type 0 where
  pub config : Config
  pub seed : List ℕ
  pub holder : ℕ
  pub pasts : List (List (Entry ProxyEvent))

-- The same with one entry more at proxy p.
abbrev pub entered_at : Pasts → ℕ → ProxyEvent → Pasts
entered_at P p event = record P { pasts = slice_set P.pasts p (record { worker = P.holder; event = event } ∷ proxy_past P.pasts p) }

-- The entries of each column.
abbrev pub pasts_of : List Seen → List (List (Entry ProxyEvent))
pasts_of columns = map (λ (x : Seen). x.past) columns

-- A column is of the site, with the tokens of the seed, and has this number; its keeper tells its rows and never fails, so no Call is marked Fault.
pub record IsColumn (C : Config) (seed : List ℕ) (p : ℕ) (x : Seen) : Type 0 where
  pub config_is : x.config ≡ C
  pub seed_is : x.seed ≡ seed
  pub number_is : x.number ≡ p
  pub steady_is : x.steady ≡ true
  pub told_is : is_some x.told ≡ true
  pub faultless : faults x.past ≡ 0

-- The columns from proxy p on.
abbrev pub AreFrom : Config → List ℕ → ℕ → List Seen → Type 0
AreFrom C seed p [] = Unit {0}
AreFrom C seed p (x ∷ more) = IsColumn C seed p x × AreFrom C seed (p + 1) more
