-- A run of a script as contracts see it.
use Rattle.std.specs.Prelude.{◌≡◌, ◌≢◌, ℕ, ◌+◌, ◌*◌, ◌<◌, ◌≤◌, false, List, [], ◌∷◌, ◌++◌, None, length}
use Rattle.okws_base.specs.Past.{last_by}
use Rattle.okws_base.specs.Runs.{Each}
use Rattle.okws_base.specs.declared.limit.TheConstants.{MOST_PROXIES, LONGEST_PATH}
use Rattle.okws_plan.specs.Configuration.{all_places}
use Rattle.okws_plan.specs.declared.configuration.Config.{Config}
use Rattle.okws_plan.specs.declared.event.OkdEvent.TheVariants.{Accept}
use Rattle.okws_plan.specs.declared.script.Line.{Line}
use Rattle.okws_plan.specs.declared.script.Line.TheVariants as line
use Rattle.okws_plan.specs.declared.script.Method.{Method}
use Rattle.http_text.specs.Target.{path}
use Rattle.monitor_model.specs.Cell.{last_booted}
use Rattle.monitor_model.specs.Launcher.{begun}
use Rattle.monitor_model.specs.Seen.{proxy_past}
use Rattle.monitor_model.specs.Okd.{accept_verdict}
use Rattle.monitor_model.specs.Script.{retired, superseded, revoked_all, downed, accepted, at_okd}
use Rattle.monitor_model.specs.Stage.{Stage, Asked, stand, with_seen, request_head}
use Rattle.monitor_model.specs.Standing.{proxy_grant, pubd_grant, log_grant}
use Rattle.site_columns.specs.Site.{Site}
use Rattle.service_cell.specs.Standing.{Standing}
use Rattle.okws_play.specs.Cells.{FitsRequest, AreSeats, stand_at, stands_by}

-- The site's configuration, the run's seed, and what was made so far.
pub record Run : Type 0 where
  pub config : Config
  pub seed : List ℕ
  pub stage : Stage

-- The same run at another state.
abbrev pub at_stage : Run → Stage → Run
at_stage run now = record run { stage = now }

-- A request more.
abbrev pub with_request : Asked → Stage → Stage
with_request asked S = record S { requests = S.requests ++ asked ∷ [] }

-- The target of a request has at most 2,049 bytes: a path, `?` and a query string.
abbrev pub IsShortLine : Line → Type 0
IsShortLine (line.Accept method target content) = length target ≤ 2 * LONGEST_PATH + 1
IsShortLine (line.Begin s) = Unit {0}
IsShortLine (line.Install s at) = Unit {0}
IsShortLine (line.Revoke s at) = Unit {0}
IsShortLine (line.Boot s) = Unit {0}
IsShortLine (line.Up s) = Unit {0}
IsShortLine (line.Down s) = Unit {0}
IsShortLine (line.Launch s) = Unit {0}
IsShortLine (line.Relaunch s) = Unit {0}
IsShortLine (line.Dialog n) = Unit {0}
IsShortLine (line.Bytes s bytes) = Unit {0}
IsShortLine (line.End s) = Unit {0}
IsShortLine (line.Publish t content) = Unit {0}

-- All that stands of s is taken down.
abbrev pub down_from : Config → ℕ → Stage → Stage
down_from C s S = retired s (superseded s (revoked_all s (all_places C) (downed s S)))

-- The request of this method, target and content is accepted.
abbrev pub accept_made : Config → Method → List ℕ → List ℕ → Stage → Stage
accept_made C method target content S =
    accepted (accept_verdict C S.seen.okd (path target)) (record { method = method; head = request_head method target content; content = content; goes = None; has_begun = false })
    (with_seen S (at_okd (Accept (path target)) S.seen))

-- The greatest incarnation begun of s is above all that was installed and booted of it.
pub record MayLaunch (s : ℕ) (S : Stage) : Type 0 where
  pub first : 0 < begun S.seen.launcher s
  pub at_proxies : (p : ℕ) → last_by proxy_grant (proxy_past S.seen.proxies p) s < begun S.seen.launcher s
  pub at_pubd : last_by pubd_grant S.seen.pubd s < begun S.seen.launcher s
  pub at_log : last_by log_grant S.seen.oklogd s < begun S.seen.launcher s
  pub booted : last_booted (stand S s).past < begun S.seen.launcher s

-- Nothing but the column of proxy p and the run's own list changed, and what is up; of s nothing was installed at another proxy.
pub record IsOnlyAt (p s : ℕ) (S T : Stage) : Type 0 where
  pub launcher_is : T.seen.launcher ≡ S.seen.launcher
  pub pubd_is : T.seen.pubd ≡ S.seen.pubd
  pub log_is : T.seen.oklogd ≡ S.seen.oklogd
  pub stands_are : T.stands ≡ S.stands
  pub requests_are : T.requests ≡ S.requests
  pub others : (q : ℕ) → q ≢ p → last_by proxy_grant (proxy_past T.seen.proxies q) s ≡ last_by proxy_grant (proxy_past S.seen.proxies q) s

-- Nothing but the proxies' columns and the run's own list changed.
pub record IsAtProxies (S T : Stage) : Type 0 where
  pub launcher_is : T.seen.launcher ≡ S.seen.launcher
  pub pubd_is : T.seen.pubd ≡ S.seen.pubd
  pub log_is : T.seen.oklogd ≡ S.seen.oklogd
  pub stands_are : T.stands ≡ S.stands
  pub requests_are : T.requests ≡ S.requests

-- The cells, the requests and the launcher's journal stay.
pub record KeepsCells (S T : Stage) : Type 0 where
  pub launcher_is : T.seen.launcher ≡ S.seen.launcher
  pub stands_are : T.stands ≡ S.stands
  pub requests_are : T.requests ≡ S.requests

-- At most 16 proxies are declared, the columns are those of the site and its seed, as number 0 has them, each service has its cell, no incarnation was booted that was not begun, and each request's frame fits.
pub record IsRun (C : Config) (seed : List ℕ) (columns : Site) (cells : List Standing) (requests : List Asked) : Type 0 where
  pub few : length C.proxies ≤ MOST_PROXIES
  pub config_is : columns.config ≡ C
  pub seed_is : columns.seed ≡ seed
  pub worker_is : columns.worker ≡ 0
  pub cells_are : length cells ≡ length C.services
  pub seats_are : AreSeats C seed 0 cells
  pub booted_are : (s : ℕ) → last_booted (stand_at (stands_by cells) s).past ≤ begun columns.seen.launcher s
  pub requests_are : Each (FitsRequest C) requests
