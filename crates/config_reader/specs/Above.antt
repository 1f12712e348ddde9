-- What the lines above a line declare, and what can be looked up there.
use Rattle.std.specs.Prelude.{ℕ, ◌≤◌, length, Bool, false, List, [], Option, position, slice_get, option_and_then, ◌==◌}
use Rattle.std.specs.List.{list_any}
use Rattle.okws_base.specs.Value.{same_bytes}
use Rattle.okws_base.specs.declared.limit.TheConstants.{DEFAULT_RETRY, MOST_PROXIES, MOST_SERVICES, MOST_TEMPLATES}
use Rattle.okws_plan.specs.declared.configuration.Config.{Config}
use Rattle.okws_plan.specs.declared.configuration.ProxyPlan.{ProxyPlan}
use Rattle.okws_plan.specs.declared.configuration.ServicePlan.{ServicePlan}
use Rattle.okws_plan.specs.declared.configuration.Table.{Table}
use Rattle.okws_plan.specs.declared.configuration.Query.{Query}
use Rattle.okws_plan.specs.Configuration.{tables_of, queries_of}

-- What the lines above declare: a configuration, and whether one of them was a `retry`.
pub record Above : Type 0 where
  pub config : Config
  pub has_retry : Bool

-- Nothing is declared above the second line.
abbrev pub nothing_above : Above
nothing_above = record {
  config = record { proxies = []; services = []; templates = []; retry = DEFAULT_RETRY; paths = []; grants = []; readables = []; loggers = [] };
  has_retry = false;
}

-- The number of the proxy with this name.
abbrev pub proxy_number : Config → List ℕ → Option ℕ
proxy_number C name = position (λ (p : ProxyPlan). same_bytes p.name name) C.proxies

-- The number of the service with this name.
abbrev pub service_number : Config → List ℕ → Option ℕ
service_number C name = position (λ (s : ServicePlan). same_bytes s.name name) C.services

-- The number of the template with this name.
abbrev pub template_number : Config → List ℕ → Option ℕ
template_number C name = position (λ (t : List ℕ). same_bytes t name) C.templates

-- The number of the table with this name.
abbrev pub table_number : List Table → List ℕ → Option ℕ
table_number tables name = position (λ (t : Table). same_bytes t.name name) tables

-- The proxy with this name.
abbrev pub plan_of : Config → List ℕ → Option ProxyPlan
plan_of C name = option_and_then (slice_get C.proxies) (proxy_number C name)

-- The tables of the proxy with this name.
abbrev pub tables_at : Config → List ℕ → List Table
tables_at C proxy = tables_of (plan_of C proxy)

-- The queries of the proxy with this name.
abbrev pub queries_at : Config → List ℕ → List Query
queries_at C proxy = queries_of (plan_of C proxy)

-- The table of the proxy with this name.
abbrev pub table_at : Config → List ℕ → List ℕ → Option Table
table_at C proxy table = option_and_then (slice_get (tables_at C proxy)) (table_number (tables_at C proxy) table)

-- A query has this number.
abbrev pub is_numbered : ℕ → Query → Bool
is_numbered number q = q.number == number

-- One of the queries has this number.
abbrev pub has_query : List Query → ℕ → Bool
has_query queries number = list_any (is_numbered number) queries

-- The numbers of proxies, services and templates stay within the limits.
pub record IsNumbered (proxies : List ProxyPlan) (services : List ServicePlan) (templates : List (List ℕ)) : Type 0 where
  pub few_proxies : length proxies ≤ MOST_PROXIES
  pub few_services : length services ≤ MOST_SERVICES
  pub few_templates : length templates ≤ MOST_TEMPLATES
