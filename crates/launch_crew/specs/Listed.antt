-- What each step of a launch adds to the launcher's own list, the newest first.
use Rattle.std.specs.Prelude.{◌≡◌, ◌≤◌, ℕ, Bool, true, false, List, [], ◌∷◌, ◌++◌, filter_map, count_by, length, nat_lt, take}
use Rattle.okws_base.specs.Past.{standing_by}
use Rattle.okws_base.specs.Turns.{Behind}
use Rattle.okws_plan.specs.Configuration.{cols}
use Rattle.okws_plan.specs.declared.configuration.Config.{Config}
use Rattle.okws_plan.specs.declared.event.ProxyEvent.TheVariants as proxy
use Rattle.okws_plan.specs.declared.script.Place.{Place}
use Rattle.monitor_model.specs.declared.record.CellEvent.{CellEvent}
use Rattle.monitor_model.specs.declared.record.Own.{Own}
use Rattle.monitor_model.specs.declared.record.Own.TheVariants as own
use Rattle.monitor_model.specs.declared.record.Record.{Record}
use Rattle.monitor_model.specs.Launches.{standing_in, with_standing, with_installs, with_boot_if, with_cleared, install_at, is_launch_at, is_launch_event, IsEnding}
use Rattle.monitor_model.specs.Merged.{okd_item, proxy_item, pubd_item, log_item}
use Rattle.monitor_model.specs.Seen.{proxy_past}
use Rattle.monitor_model.specs.Standing.{okd_grant, proxy_grant, pubd_grant, log_grant}
use Rattle.site_cells.specs.Row.{CellsSeen, seen_at}
use Rattle.site_locks.specs.Sat.{Sat}

-- A record of these cells, of which nothing else is told.
abbrev pub of_cells : List (List CellEvent) → Record
of_cells cells = record { okd = []; proxies = []; pubd = []; oklogd = []; launcher = []; cells = cells; sents = []; doors = []; workers = []; launches = [] }

-- What stands of each service at each column, as far as a number has seen, is what stands of it by these items.
pub record StandsByOwn (sat : Sat) (items : List Own) : Type 0 where
  pub okd : (t : ℕ) → standing_by okd_grant sat.okd t ≡ standing_in okd_grant (filter_map okd_item items) t
  pub proxies : (p t : ℕ) → standing_by proxy_grant (proxy_past sat.proxies p) t ≡ standing_in proxy_grant (filter_map (proxy_item p) items) t
  pub pubd : (t : ℕ) → standing_by pubd_grant sat.pubd t ≡ standing_in pubd_grant (filter_map pubd_item items) t
  pub oklogd : (t : ℕ) → standing_by log_grant sat.oklogd t ≡ standing_in log_grant (filter_map log_item items) t

-- The Revoke of what stands of s at proxy p.
abbrev pub with_revoke_at : ℕ → ℕ → List Own → List Own
with_revoke_at s p items = with_standing (λ (k : ℕ). own.Proxy p (proxy.Revoke s k)) (standing_in proxy_grant (filter_map (proxy_item p) items) s) items

-- The Install of incarnation k of s at a column, where it is wanted there.
abbrev pub with_install_if : Bool → List ℕ → ℕ → ℕ → Place → List Own → List Own
with_install_if true seed s k at items = install_at seed s k at ∷ items
with_install_if false seed s k at items = items

-- Incarnation k of s was installed at the first of these columns, in order, and the rest are left.
pub record InstallsFirst (seed : List ℕ) (s k : ℕ) (places rest : List Place) (old new : List Own) : Type 0 where
  pub done : List Place
  pub places_are : places ≡ done ++ rest
  pub own_is : new ≡ with_installs seed s k done old

-- An attempt at incarnation k of s, behind these items, after n of its steps: what was there before is ended; so many Installs and then the Boot are done.
abbrev pub stepped : Config → List ℕ → Record → ℕ → ℕ → ℕ → List Own → List Own
stepped C seed R s k n items = with_boot_if (nat_lt (length (cols C s)) n) s k (with_installs seed s k (take n (cols C s)) (with_cleared C R s items))

-- A number has made no more items at a cell than it has seen of the launcher's events there.
abbrev pub AreCounted : CellsSeen → List Own → Type 0
AreCounted w items = (t : ℕ) → count_by (is_launch_at t) items ≤ count_by is_launch_event (seen_at w t)

-- What was seen of each cell is seen behind what is new there.
abbrev pub CellsGo : CellsSeen → CellsSeen → Type 0
CellsGo w v = (s : ℕ) → Behind (seen_at w s) (seen_at v s)

-- A list ended with a Retired for each cell that had an incarnation.
pub record EndsPieces (cells : List (List CellEvent)) (old new : List Own) : Type 0 where
  pub ending : List Own
  pub own_is : new ≡ ending ++ old
  pub ends : IsEnding (of_cells cells) old ending
