-- The columns of a site as a worker has them, as contracts see them.
use Rattle.std.specs.Prelude.{◌≡◌, ℕ, ◌<◌, ◌≤◌, Bool, true, ◌&&◌, List, [], ◌∷◌, Option, Some, None, length, nat_le, nat_lt, replicate, slice_set}
use Rattle.std.specs.List.{list_all}
use Rattle.okws_base.specs.Past.{last_by}
use Rattle.okws_base.specs.declared.journal.Entry.{Entry}
use Rattle.okws_base.specs.declared.limit.TheConstants.{LONGEST_TEMPLATE}
use Rattle.okws_plan.specs.Configuration.{template_name}
use Rattle.okws_plan.specs.Rules.{QueriesKeepRules}
use Rattle.okws_plan.specs.declared.configuration.Config.{Config}
use Rattle.okws_plan.specs.declared.configuration.Owned.{Owned}
use Rattle.okws_plan.specs.declared.event.LauncherEvent.{LauncherEvent}
use Rattle.okws_plan.specs.declared.event.LogEvent.{LogEvent}
use Rattle.okws_plan.specs.declared.event.OkdEvent.{OkdEvent}
use Rattle.okws_plan.specs.declared.event.OkdEvent.TheVariants as okd
use Rattle.okws_plan.specs.declared.event.ProxyEvent.{ProxyEvent}
use Rattle.okws_plan.specs.declared.event.PubdEvent.{PubdEvent}
use Rattle.okws_plan.specs.declared.event.PubdEvent.TheVariants as pubd
use Rattle.okws_plan.specs.declared.event.ProxyEvent.TheVariants as proxy
use Rattle.okws_plan.specs.declared.event.LogEvent.TheVariants as oklogd
use Rattle.okws_plan.specs.declared.script.Place.{Place}
use Rattle.okws_plan.specs.declared.script.Place.TheVariants.{Proxy, Pubd, Oklogd}
use Rattle.token_core.specs.Token.{token_of}
use Rattle.monitor_model.specs.declared.record.Own.TheVariants as own
use Rattle.monitor_model.specs.Launcher.{begun}
use Rattle.monitor_model.specs.Seen.{Seen, proxy_past}
use Rattle.monitor_model.specs.Standing.{proxy_grant, pubd_grant, log_grant}
use Rattle.okd_dispatch.specs.Seen.{Seen as OkdSeen}
use Rattle.pubd_core.specs.Seen.{Seen as PubdSeen}
use Rattle.log_daemon.specs.Seen.{Seen as LogSeen}
use Rattle.site_columns.specs.Launches.{Launched}
use Rattle.site_columns.specs.Proxies.{Pasts}

-- The site's configuration, the seed of its tokens, the number of the worker that has the columns, which new entries name, and what was made so far, with the worker's own list.
pub record Site : Type 0 where
  pub config : Config
  pub seed : List ℕ
  pub worker : ℕ
  pub seen : Seen

-- The site at which nothing happened, as number 0 has it.
abbrev pub unmade : Config → List ℕ → Site
unmade C seed = record {
  config = C;
  seed = seed;
  worker = 0;
  seen = record { okd = []; proxies = replicate (length C.proxies) []; pubd = []; oklogd = []; launcher = []; own = [] };
}

-- The worker entered an event at okd.
abbrev pub made_okd : Site → OkdEvent → Site
made_okd site e = record site { seen = record site.seen { okd = record { worker = site.worker; event = e } ∷ site.seen.okd; own = own.Okd e ∷ site.seen.own } }

-- The worker entered an event at proxy p.
abbrev pub made_proxy : Site → ℕ → ProxyEvent → Site
made_proxy site p e = record site {
  seen = record site.seen {
    proxies = slice_set site.seen.proxies p (record { worker = site.worker; event = e } ∷ proxy_past site.seen.proxies p);
    own = own.Proxy p e ∷ site.seen.own;
  };
}

-- The worker entered an event at pubd.
abbrev pub made_pubd : Site → PubdEvent → Site
made_pubd site e = record site { seen = record site.seen { pubd = record { worker = site.worker; event = e } ∷ site.seen.pubd; own = own.Pubd e ∷ site.seen.own } }

-- The worker entered an event at oklogd.
abbrev pub made_log : Site → LogEvent → Site
made_log site e = record site { seen = record site.seen { oklogd = record { worker = site.worker; event = e } ∷ site.seen.oklogd; own = own.Oklogd e ∷ site.seen.own } }

-- The worker entered an event at the launcher.
abbrev pub made_launcher : Site → LauncherEvent → Site
made_launcher site e = record site { seen = record site.seen { launcher = record { worker = site.worker; event = e } ∷ site.seen.launcher; own = own.Launcher e ∷ site.seen.own } }

-- The worker installed incarnation k of s at a column, with the token of the seed.
abbrev pub installed_at : Site → ℕ → ℕ → Place → Site
installed_at site s k (Proxy p) = made_proxy site p (proxy.Install s k (token_of site.seed s k p))
installed_at site s k Pubd = made_pubd site (pubd.Install s k)
installed_at site s k Oklogd = made_log site (oklogd.Install s k)

-- The worker revoked what stood of s at a column, if anything did.
abbrev pub revoked_at : Site → ℕ → Place → Option ℕ → Site
revoked_at site s at None = site
revoked_at site s (Proxy p) (Some k) = made_proxy site p (proxy.Revoke s k)
revoked_at site s Pubd (Some k) = made_pubd site (pubd.Revoke s k)
revoked_at site s Oklogd (Some k) = made_log site (oklogd.Revoke s k)

-- The worker entered Down of what was up of s, if anything was.
abbrev pub downed_at : Site → ℕ → Option ℕ → Site
downed_at site s None = site
downed_at site s (Some k) = made_okd site (okd.Down s k)

-- An edition that is published is no longer than one may be.
abbrev pub is_short_event : PubdEvent → Bool
is_short_event (pubd.Publish t content) = nat_le (length content) LONGEST_TEMPLATE
is_short_event (pubd.Install s k) = true
is_short_event (pubd.Revoke s k) = true
is_short_event (pubd.Drain s k) = true
is_short_event (pubd.Get s k name) = true

-- No edition that was published is longer than one may be.
abbrev pub are_short : List (Entry PubdEvent) → Bool
are_short [] = true
are_short (e ∷ J) = is_short_event e.event && are_short J

-- An incarnation that is up is one from 1 on.
abbrev pub is_numbered : OkdEvent → Bool
is_numbered (okd.Up s k) = nat_lt 0 k
is_numbered (okd.Down s k) = true
is_numbered (okd.Accept path) = true

-- Each incarnation that was up is one from 1 on.
abbrev pub are_numbered : List (Entry OkdEvent) → Bool
are_numbered [] = true
are_numbered (e ∷ J) = is_numbered e.event && are_numbered J

-- The queries of each proxy keep the rules of the query language, each template's name has fewer than 256 bytes, and the services that own paths are declared.
pub record KeepsRules (C : Config) : Type 0 where
  pub queries : (p : ℕ) → QueriesKeepRules C p
  pub names : (t : ℕ) → length (template_name C t) < 256
  pub owners : list_all (λ (o : Owned). nat_lt o.service (length C.services)) C.paths ≡ true

-- No incarnation was installed that was not begun.
pub record AreBegun (proxies : List (List (Entry ProxyEvent))) (pubd : List (Entry PubdEvent)) (oklogd : List (Entry LogEvent)) (launcher : List (Entry LauncherEvent)) : Type 0 where
  pub at_proxies : (p s : ℕ) → last_by proxy_grant (proxy_past proxies p) s ≤ begun launcher s
  pub at_pubd : (s : ℕ) → last_by pubd_grant pubd s ≤ begun launcher s
  pub at_log : (s : ℕ) → last_by log_grant oklogd s ≤ begun launcher s

-- What was last installed of s at each column stays, and what was begun.
pub record SameLasts (s : ℕ) (J K : Seen) : Type 0 where
  pub at_proxies : (p : ℕ) → last_by proxy_grant (proxy_past K.proxies p) s ≡ last_by proxy_grant (proxy_past J.proxies p) s
  pub at_pubd : last_by pubd_grant K.pubd s ≡ last_by pubd_grant J.pubd s
  pub at_log : last_by log_grant K.oklogd s ≡ last_by log_grant J.oklogd s
  pub launcher_is : K.launcher ≡ J.launcher

-- The columns are those of one site; its queries keep the rules, no edition is longer than one may be, and only incarnations from 1 on are up.
pub record IsSite (C : Config) (seed : List ℕ) (okd : OkdSeen) (proxies : Pasts) (pubd : PubdSeen) (oklogd : LogSeen) (launched : Launched) : Type 0 where
  pub okd_config : okd.config ≡ C
  pub proxies_config : proxies.config ≡ C
  pub proxies_seed : proxies.seed ≡ seed
  pub proxies_are : length proxies.pasts ≡ length C.proxies
  pub pubd_config : pubd.config ≡ C
  pub log_config : oklogd.config ≡ C
  pub services_are : launched.services ≡ length C.services
  pub begun_are : AreBegun proxies.pasts pubd.past oklogd.past launched.past
  pub rules_are : KeepsRules C
  pub short_are : are_short pubd.past ≡ true
  pub ups_are : are_numbered okd.past ≡ true
