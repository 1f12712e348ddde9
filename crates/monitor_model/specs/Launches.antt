-- Of which pieces the launcher's list is made.
use Rattle.std.specs.Prelude.{◌≡◌, ℕ, zero, suc, ◌+◌, Bool, true, false, List, [], ◌∷◌, ◌++◌, ◌==◌, ◌&&◌, nat_le, nat_lt, Option, Some, None, count_by, filter_map, length, sum_by, take, if◌then◌else◌, IsTrue, IsFalse}
use Rattle.std.specs.List.{list_all, list_any}
use Rattle.okws_base.specs.Past.{Grant, standing_after}
use Rattle.okws_base.specs.declared.journal.Entry.{Entry}
use Rattle.token_core.specs.Token.{token_of}
use Rattle.okws_plan.specs.Configuration.{cols}
use Rattle.okws_plan.specs.declared.configuration.Config.{Config}
use Rattle.okws_plan.specs.declared.script.Place.{Place}
use Rattle.okws_plan.specs.declared.script.Place.TheVariants.{Proxy, Pubd, Oklogd}
use Rattle.okws_plan.specs.declared.event.LauncherEvent.{LauncherEvent}
use Rattle.okws_plan.specs.declared.event.LauncherEvent.TheVariants as launcher
use Rattle.okws_plan.specs.declared.event.LogEvent.TheVariants as oklogd
use Rattle.okws_plan.specs.declared.event.OkdEvent.TheVariants as okd
use Rattle.okws_plan.specs.declared.event.ProxyEvent.TheVariants as proxy
use Rattle.okws_plan.specs.declared.event.PubdEvent.TheVariants as pubd
use Rattle.monitor_model.specs.declared.record.CellEvent.{CellEvent}
use Rattle.monitor_model.specs.declared.record.CellEvent.TheVariants as cell
use Rattle.monitor_model.specs.declared.record.Own.{Own}
use Rattle.monitor_model.specs.declared.record.Own.TheVariants as own
use Rattle.monitor_model.specs.declared.record.Record.{Record}
use Rattle.monitor_model.specs.Cell.{incarnation}
use Rattle.monitor_model.specs.Columns.{WithinCount}
use Rattle.monitor_model.specs.Merged.{okd_item, proxy_item, pubd_item, log_item, cell_past}
use Rattle.monitor_model.specs.Outside.{Outside}
use Rattle.monitor_model.specs.Pieces.{worker_list}
use Rattle.monitor_model.specs.Placed.{EachFrom}
use Rattle.monitor_model.specs.Sent.{is_link_fault}
use Rattle.monitor_model.specs.Standing.{okd_grant, proxy_grant, pubd_grant, log_grant}

-- What stands of s after these events, the newest first.
abbrev pub standing_in : {E : Type 0} → (E → Grant) → List E → ℕ → Option ℕ
standing_in grant [] s = None
standing_in grant (e ∷ events) s = standing_after (grant e) s (standing_in grant events s)

-- One item more, of the incarnation that stands, where one does.
abbrev pub with_standing : (ℕ → Own) → Option ℕ → List Own → List Own
with_standing item None items = items
with_standing item (Some k) items = item k ∷ items

-- The Down of what is up of s, where anything is.
abbrev pub with_down : ℕ → List Own → List Own
with_down s items = with_standing (λ (k : ℕ). own.Okd (okd.Down s k)) (standing_in okd_grant (filter_map okd_item items) s) items

-- The Revokes of what stands of s at n proxies from p on.
abbrev pub with_revokes_from : ℕ → ℕ → ℕ → List Own → List Own
with_revokes_from s p zero items = items
with_revokes_from s p (suc n) items =
    with_revokes_from s (suc p) n (with_standing (λ (k : ℕ). own.Proxy p (proxy.Revoke s k)) (standing_in proxy_grant (filter_map (proxy_item p) items) s) items)

-- The Revoke of what stands of s at pubd.
abbrev pub with_revoke_pubd : ℕ → List Own → List Own
with_revoke_pubd s items = with_standing (λ (k : ℕ). own.Pubd (pubd.Revoke s k)) (standing_in pubd_grant (filter_map pubd_item items) s) items

-- The Revoke of what stands of s at oklogd.
abbrev pub with_revoke_log : ℕ → List Own → List Own
with_revoke_log s items = with_standing (λ (k : ℕ). own.Oklogd (oklogd.Revoke s k)) (standing_in log_grant (filter_map log_item items) s) items

-- The Revokes of what stands of s at each proxy, at pubd and at oklogd.
abbrev pub with_revokes : Config → ℕ → List Own → List Own
with_revokes C s items = with_revoke_log s (with_revoke_pubd s (with_revokes_from s 0 (length C.proxies) items))

-- A cell's event is the launcher's: a Boot or a Retired.
abbrev pub is_launch_event : CellEvent → Bool
is_launch_event (cell.Boot k) = true
is_launch_event cell.Retired = true
is_launch_event (cell.Missed worker wanted is) = false
is_launch_event (cell.Dialog d) = false
is_launch_event (cell.Speaking worker items) = false

-- The item is a Boot or a Retired at cell s.
abbrev pub is_launch_at : ℕ → Own → Bool
is_launch_at s (own.Boot t k) = t == s
is_launch_at s (own.Retired t) = t == s
is_launch_at s _ = false

-- A cell up to the event before which the launcher has made n of its events there; all of it where it made no more.
abbrev pub until_launch : ℕ → List CellEvent → List CellEvent
until_launch n [] = []
until_launch n (e ∷ J) = if nat_le (count_by is_launch_event (e ∷ J)) n then e ∷ J else until_launch n J

-- The incarnation that cell s has when the launcher, which has made these items, comes there next, 0 for none.
abbrev pub found_at : Record → ℕ → List Own → ℕ
found_at R s items = incarnation (until_launch (count_by (is_launch_at s) items) (cell_past R s))

-- Retired, where cell s has an incarnation.
abbrev pub with_retired : Record → ℕ → List Own → List Own
with_retired R s items = if found_at R s items == 0 then items else own.Retired s ∷ items

-- What was there before of s is ended everywhere: the Down, the Revokes and Retired, each where there is something to end.
abbrev pub with_cleared : Config → Record → ℕ → List Own → List Own
with_cleared C R s items = with_retired R s (with_revokes C s (with_down s items))

-- The Install of incarnation k of s at a column.
abbrev pub install_at : List ℕ → ℕ → ℕ → Place → Own
install_at seed s k (Proxy p) = own.Proxy p (proxy.Install s k (token_of seed s k p))
install_at seed s k Pubd = own.Pubd (pubd.Install s k)
install_at seed s k Oklogd = own.Oklogd (oklogd.Install s k)

-- The Installs of incarnation k of s at these columns, in order.
abbrev pub with_installs : List ℕ → ℕ → ℕ → List Place → List Own → List Own
with_installs seed s k [] items = items
with_installs seed s k (at ∷ places) items = with_installs seed s k places (install_at seed s k at ∷ items)

-- How an attempt at a launch went: the incarnation came up; its start failed; or memory was refused after n steps, which are the Installs and the Boot.
pub data Fate : Type 0 where
  CameUp : Fate
  Failed : Fate
  BrokeOff : (n : ℕ) → Fate

-- The Boot of incarnation k of s, where more than all columns were done.
abbrev pub with_boot_if : Bool → ℕ → ℕ → List Own → List Own
with_boot_if true s k items = own.Boot s k ∷ items
with_boot_if false s k items = items

-- The piece of incarnation k of s, behind these items: what was there before is ended; Install along the columns of s; Boot; Up. Where the start failed, Boot and Up are lacking. Where it broke off, it ends with the Revokes of what it installed.
abbrev pub with_piece : Config → List ℕ → Record → ℕ → ℕ → Fate → List Own → List Own
with_piece C seed R s k CameUp items = own.Okd (okd.Up s k) ∷ own.Boot s k ∷ with_installs seed s k (cols C s) (with_cleared C R s items)
with_piece C seed R s k Failed items = with_installs seed s k (cols C s) (with_cleared C R s items)
with_piece C seed R s k (BrokeOff n) items =
    with_revokes C s (with_boot_if (nat_lt (length (cols C s)) n) s k (with_installs seed s k (take n (cols C s)) (with_cleared C R s items)))

-- A Begun, and who entered it.
pub record Attempt : Type 0 where
  pub worker : ℕ
  pub service : ℕ
  pub incarnation : ℕ

-- The attempt that an event begins, if it does, where worker w entered it.
abbrev pub attempt_by : ℕ → LauncherEvent → Option Attempt
attempt_by w (launcher.Begun s k) = Some (record { worker = w; service = s; incarnation = k })
attempt_by w _ = None

-- The attempts of the launcher's journal.
abbrev pub attempts : List (Entry LauncherEvent) → List Attempt
attempts J = filter_map (λ (e : Entry LauncherEvent). attempt_by e.worker e.event) J

-- The pieces of these attempts, each with its fate, the newest first.
abbrev pub all_pieces : Config → List ℕ → Record → List Attempt → List Fate → List Own
all_pieces C seed R [] fates = []
all_pieces C seed R (a ∷ more) [] = []
all_pieces C seed R (a ∷ more) (fate ∷ fates) = with_piece C seed R a.service a.incarnation fate (all_pieces C seed R more fates)

-- The event is the Failed of incarnation k of s.
abbrev pub is_failed_of : ℕ → ℕ → LauncherEvent → Bool
is_failed_of s k (launcher.Failed t j) = (t == s) && (j == k)
is_failed_of s k _ = false

-- Failed(s, k) stands in the launcher's journal.
abbrev pub has_failed : Record → ℕ → ℕ → Bool
has_failed R s k = list_any (λ (e : Entry LauncherEvent). is_failed_of s k e.event) R.launcher

-- The event is the Begun of incarnation k of s.
abbrev pub is_begun_of : ℕ → ℕ → LauncherEvent → Bool
is_begun_of s k (launcher.Begun t j) = (t == s) && (j == k)
is_begun_of s k _ = false

-- The item is the Begun of incarnation k of s.
abbrev pub is_begun_item : ℕ → ℕ → Own → Bool
is_begun_item s k (own.Launcher e) = is_begun_of s k e
is_begun_item s k _ = false

-- The item behind the Begun of incarnation k of s, if there is one; `next` is the item behind the list.
abbrev pub item_after_begun : ℕ → ℕ → Option Own → List Own → Option Own
item_after_begun s k next [] = None
item_after_begun s k next (item ∷ items) = if is_begun_item s k item then next else item_after_begun s k (Some item) items

-- There is an item, and it is NoMemory.
abbrev pub is_want : Option Own → Bool
is_want (Some own.NoMemory) = true
is_want _ = false

-- An attempt went so: it came up or failed as its Failed stands or doesn't; it broke off only where NoMemory is the next item of who began it.
abbrev pub IsFate : Record → Attempt → Fate → Type 0
IsFate R a CameUp = IsFalse (has_failed R a.service a.incarnation)
IsFate R a Failed = IsTrue (has_failed R a.service a.incarnation)
IsFate R a (BrokeOff n) =
    IsFalse (has_failed R a.service a.incarnation) × IsTrue (is_want (item_after_begun a.service a.incarnation None (worker_list R a.worker)))

-- Each attempt went so.
abbrev pub AreFates : Record → List Attempt → List Fate → Type 0
AreFates R [] [] = Unit {0}
AreFates R [] (fate ∷ fates) = ⊥
AreFates R (a ∷ more) [] = ⊥
AreFates R (a ∷ more) (fate ∷ fates) = IsFate R a fate × AreFates R more fates

-- The item retires cell s.
abbrev pub retires : ℕ → Own → Bool
retires s (own.Retired t) = t == s
retires s _ = false

-- The item is a Retired.
abbrev pub is_retired : Own → Bool
is_retired (own.Retired s) = true
is_retired _ = false

-- How many Retireds are due at the end to a cell that is found with this incarnation.
abbrev pub retired_due : ℕ → ℕ
retired_due zero = 0
retired_due (suc k) = 1

-- The last items are Retireds, one for each cell that has an incarnation behind the pieces.
pub record IsEnding (R : Record) (pieces ending : List Own) : Type 0 where
  pub retireds : IsTrue (list_all is_retired ending)
  pub each : EachFrom (λ s J. count_by (retires s) ending ≡ retired_due (found_at R s pieces)) 0 R.cells

-- A cell's event is a dialog that ended by a fault of its link.
abbrev pub is_fault_event : CellEvent → Bool
is_fault_event (cell.Dialog d) = is_link_fault d.end
is_fault_event (cell.Boot k) = false
is_fault_event cell.Retired = false
is_fault_event (cell.Missed worker wanted is) = false
is_fault_event (cell.Speaking worker items) = false

-- The event is a Failed.
abbrev pub is_failed : LauncherEvent → Bool
is_failed (launcher.Failed s k) = true
is_failed _ = false

-- How many starts failed, and how many dialogs ended by a fault of their links, together.
abbrev pub failures : Record → ℕ
failures R = count_by (λ (e : Entry LauncherEvent). is_failed e.event) R.launcher + sum_by (λ (J : List CellEvent). count_by is_fault_event J) R.cells

-- The launcher's list has one piece for each Begun of its journal, in order, and ends with Retired for each cell that has an incarnation. Starts that failed and dialogs that ended by a fault of their links are together at most as many as the children's and the links' counts rose.
pub record LaunchesArePieces (C : Config) (seed : List ℕ) (T : Outside) (R : Record) : Type 0 where
  pub fates : List Fate
  pub ending : List Own
  pub are_fates : AreFates R (attempts R.launcher) fates
  pub list_is : R.launches ≡ ending ++ all_pieces C seed R (attempts R.launcher) fates
  pub ends : IsEnding R (all_pieces C seed R (attempts R.launcher) fates) ending
  pub failures_are : WithinCount T.children (failures R)
