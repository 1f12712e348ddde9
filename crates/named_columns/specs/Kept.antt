-- What each column of a run keeps behind its lock: the run's site, who launched, and the counts of its entries. Number n launches.
use Rattle.std.specs.Prelude.{◌≡◌, ◌<◌, ◌≤◌, ℕ, Bool, true, false, List, length, is_some}
use Rattle.okws_plan.specs.declared.configuration.Config.{Config}
use Rattle.okws_outer.specs.Streams.{Rose, counted}
use Rattle.monitor_model.specs.Booting.{AllFollow}
use Rattle.monitor_model.specs.Columns.{faults}
use Rattle.monitor_model.specs.Installed.{EachFollows, LogFollows, PubdFollows}
use Rattle.monitor_model.specs.Standing.{okd_grant, proxy_grant, pubd_grant, log_grant}
use Rattle.okd_dispatch.specs.Seen.{Seen as Okd}
use Rattle.db_proxy.specs.Seen.{Seen as Proxy}
use Rattle.pubd_core.specs.Seen.{Seen as Pubd}
use Rattle.log_daemon.specs.Seen.{Seen as Log}
use Rattle.site_columns.specs.Site.{KeepsRules, are_numbered, are_short}
use Rattle.named_columns.specs.Launched.{LaunchedBy}
use Rattle.named_columns.specs.Counts.{capped, accepts, ups, publications, logged}

-- Only incarnations from 1 on are up.
pub record IsOkd (C : Config) (n : ℕ) (okd : Okd) (accepted raised : ℕ) : Type 0 where
  pub config_is : okd.config ≡ C
  pub rules : KeepsRules C
  pub launched : LaunchedBy okd_grant n okd.past
  pub numbered : are_numbered okd.past ≡ true
  pub accepted_are : accepted ≡ capped (accepts okd.past)
  pub raised_are : raised ≡ capped (ups okd.past)

-- Each Open and Call stands above the Install of its incarnation, where its service has a grant. Where the run's keepers tell their rows this one does, and where none of their calls fails no Call is marked Fault; else at most as many are as the keeper's count rose since it stood at `first`, and where none is it stands there still.
pub record IsProxy (C : Config) (seed : List ℕ) (n : ℕ) (tells steady : Bool) (first : ℕ → ℕ) (proxy : Proxy) : Type 0 where
  pub config_is : proxy.config ≡ C
  pub rules : KeepsRules C
  pub seed_is : proxy.seed ≡ seed
  pub declared : proxy.number < length C.proxies
  pub launched : LaunchedBy proxy_grant n proxy.past
  pub follows : AllFollow C proxy.number proxy.past
  pub told_is : tells ≡ true → is_some proxy.told ≡ true
  pub steady_is : steady ≡ true → proxy.steady ≡ true
  pub faultless : steady ≡ true → faults proxy.past ≡ 0
  pub faults_are : counted (first proxy.number) (faults proxy.past) ≤ proxy.faults
  pub still : faults proxy.past ≡ 0 → proxy.faults ≡ first proxy.number

-- No edition is longer than one may be, and each Drain and Get stands above the Install of its incarnation.
pub record IsPubd (C : Config) (n : ℕ) (pubd : Pubd) (published : ℕ) : Type 0 where
  pub config_is : pubd.config ≡ C
  pub rules : KeepsRules C
  pub launched : LaunchedBy pubd_grant n pubd.past
  pub follows : EachFollows PubdFollows pubd.past
  pub short : are_short pubd.past ≡ true
  pub published_are : published ≡ capped (publications pubd.past)

-- Each Log stands above the Install of its incarnation. A log has stopped exactly where the sink's count rose since it stood at `first`.
pub record IsLog (C : Config) (n first : ℕ) (log : Log) (written : ℕ) : Type 0 where
  pub config_is : log.config ≡ C
  pub launched : LaunchedBy log_grant n log.past
  pub follows : EachFollows LogFollows log.past
  pub written_are : written ≡ capped (logged C log.past)
  pub later : first ≤ log.faults
  pub stopped_is : log.stopped ≡ true → Rose first log.faults
  pub still : log.stopped ≡ false → log.faults ≡ first
