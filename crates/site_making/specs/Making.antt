-- What is made before a run.
use Rattle.std.specs.Prelude.{◌≡◌, ◌≤◌, ℕ, List, [], length}
use Rattle.okws_base.specs.declared.journal.Entry.{Entry}
use Rattle.okws_base.specs.declared.limit.TheConstants.{GREATEST_RETRY, MOST_PROXIES, MOST_SERVICES, MOST_TEMPLATES}
use Rattle.okws_plan.specs.declared.configuration.Config.{Config}
use Rattle.okws_plan.specs.declared.event.LogEvent.{LogEvent}
use Rattle.okws_plan.specs.declared.event.ProxyEvent.{ProxyEvent}
use Rattle.okws_plan.specs.declared.event.OkdEvent.{OkdEvent}
use Rattle.okws_plan.specs.declared.event.PubdEvent.{PubdEvent}
use Rattle.turn_lock.specs.Rows.{AllNone}
use Rattle.site_columns.specs.Site.{KeepsRules}
use Rattle.site_locks.specs.Sat.{RiseFrom}

-- A site that can be served: it keeps the rules of configurations, and has no more services, templates and proxies than it may have.
pub record IsServable (C : Config) : Type 0 where
  pub rules : KeepsRules C
  pub services : length C.services ≤ MOST_SERVICES
  pub retry : C.retry ≤ GREATEST_RETRY
  pub templates : length C.templates ≤ MOST_TEMPLATES
  pub proxies : length C.proxies ≤ MOST_PROXIES

-- The columns of a site at which nothing happened, with a proxy of each number that is declared.
pub record AreNewColumns (C : Config) (okd : List (Entry OkdEvent)) (proxies : List (List (Entry ProxyEvent))) (numbers : List ℕ) (pubd : List (Entry PubdEvent)) (oklogd : List (Entry LogEvent)) : Type 0 where
  pub okd_none : okd ≡ []
  pub proxies_none : AllNone proxies
  pub numbered : RiseFrom 0 numbers
  pub declared : length numbers ≡ length C.proxies
  pub pubd_none : pubd ≡ []
  pub log_none : oklogd ≡ []
