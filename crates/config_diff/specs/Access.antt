-- What services may do: the grants, the templates that they read, and who writes to the log.
use Rattle.std.specs.Prelude.{ℕ, Bool, ◌&&◌, nat_lt, length}
use Rattle.std.specs.List.{list_all}
use Rattle.okws_plan.specs.Sound.{names_query, names_template}
use Rattle.okws_plan.specs.declared.configuration.Config.{Config}
use Rattle.config_diff.specs.declared.access.Access.{Access}

-- What services may do by a configuration.
abbrev pub access_of : Config → Access
access_of C = record { grants = C.grants; readables = C.readables; loggers = C.loggers }

-- A configuration in which services may do this.
abbrev pub with_access : Config → Access → Config
with_access C a = record {
  proxies = C.proxies;
  services = C.services;
  templates = C.templates;
  retry = C.retry;
  paths = C.paths;
  grants = a.grants;
  readables = a.readables;
  loggers = a.loggers;
}

-- It names only services, queries and templates that the configuration declares.
abbrev pub declares : Config → Access → Bool
declares C a = list_all (names_query C) a.grants && (list_all (names_template C) a.readables && list_all (λ (s : ℕ). nat_lt s (length C.services)) a.loggers)
