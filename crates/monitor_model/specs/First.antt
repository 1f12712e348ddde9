-- That all services are launched before anything else happens.
use Rattle.std.specs.Prelude.{◌≡◌, ℕ, ◌+◌, Bool, true, false, List, [], ◌∷◌, ◌==◌, Option, Some, None, length, option_map, reverse, if◌then◌else◌, IsTrue}
use Rattle.std.specs.List.{list_any}
use Rattle.okws_base.specs.Runs.{Each}
use Rattle.okws_base.specs.declared.journal.Entry.{Entry}
use Rattle.okws_plan.specs.declared.configuration.Config.{Config}
use Rattle.okws_plan.specs.declared.event.LauncherEvent.{LauncherEvent}
use Rattle.okws_plan.specs.declared.event.LauncherEvent.TheVariants.{Begun, Failed, Crashed, Dead, Asked}
use Rattle.okws_plan.specs.declared.event.OkdEvent.{OkdEvent}
use Rattle.monitor_model.specs.declared.record.CellEvent.{CellEvent}
use Rattle.monitor_model.specs.declared.record.CellEvent.TheVariants as cell
use Rattle.monitor_model.specs.declared.record.Own.{Own}
use Rattle.monitor_model.specs.declared.record.Own.TheVariants as own
use Rattle.monitor_model.specs.declared.record.Record.{Record}
use Rattle.monitor_model.specs.Causes.{has_up, is_up_of}
use Rattle.monitor_model.specs.Merged.{cell_past}
use Rattle.monitor_model.specs.Pieces.{is_accept, worker_list}

-- An incarnation that came up.
pub record Came : Type 0 where
  pub service : ℕ
  pub incarnation : ℕ

-- What an item is to the first launches of service s: one more attempt or its failure; the Begun that came up; the end of the attempts; or no part of them.
pub data Part : Type 0 where
  Goes : Part
  Ups : (k : ℕ) → Part
  Gives : Part
  Strays : Part

-- The launcher's event as a part of them.
abbrev pub event_part : Record → ℕ → LauncherEvent → Part
event_part R s (Begun t k) = if t == s then (if has_up R s k then Ups k else Goes) else Strays
event_part R s (Failed t k) = if t == s then Goes else Strays
event_part R s (Dead t n) = if t == s then Gives else Strays
event_part R s (Crashed t k) = Strays
event_part R s (Asked t) = Strays

-- The item as a part of them.
abbrev pub part : Record → ℕ → Own → Part
part R s (own.Launcher e) = event_part R s e
part R s own.NoMemory = Gives
part R s _ = Strays

-- What came up, by the next part, where `more` came up behind it.
abbrev pub came_by : ℕ → Part → Option (List Came) → Option (List Came)
came_by s Goes more = more
came_by s (Ups k) more = option_map (λ (others : List Came). record { service = s; incarnation = k } ∷ others) more
came_by s Gives more = more
came_by s Strays more = None

-- Where the launches go on behind an item: at the same service, or at the next.
abbrev pub service_after : ℕ → Part → ℕ
service_after s Goes = s
service_after s (Ups k) = s + 1
service_after s Gives = s + 1
service_after s Strays = s

-- What came up of the services from s to n, where a list, the oldest first, begins with their launches, service by service: Begun and Failed, and then Dead or NoMemory, unless the last Begun has its Up. None where it doesn't.
abbrev pub first_came : Record → ℕ → ℕ → List Own → Option (List Came)
first_came R n s [] = if s == n then Some [] else None
first_came R n s (item ∷ items) = if s == n then Some [] else came_by s (part R s item) (first_came R n (service_after s (part R s item)) items)

-- The entries before the first that passes the test, the newest first.
abbrev pub before_any : {E : Type 0} → (E → Bool) → List E → List E
before_any test [] = []
before_any test (e ∷ J) = if list_any test (e ∷ J) then before_any test J else e ∷ J

-- A cell's event is a dialog or a Missed.
abbrev pub is_talk : CellEvent → Bool
is_talk (cell.Dialog d) = true
is_talk (cell.Speaking worker items) = true
is_talk (cell.Missed worker wanted is) = true
is_talk (cell.Boot k) = false
is_talk cell.Retired = false

-- A cell's event is the Boot of incarnation k.
abbrev pub is_boot_of : ℕ → CellEvent → Bool
is_boot_of k (cell.Boot j) = j == k
is_boot_of k cell.Retired = false
is_boot_of k (cell.Missed worker wanted is) = false
is_boot_of k (cell.Dialog d) = false
is_boot_of k (cell.Speaking worker items) = false

-- What came up of a service stands at okd before every Accept, and in its cell before every dialog and Missed.
pub record ComesFirst (R : Record) (came : Came) : Type 0 where
  pub up : IsTrue (list_any (λ (e : Entry OkdEvent). is_up_of came.service came.incarnation e.event) (before_any (λ (e : Entry OkdEvent). is_accept e.event) R.okd))
  pub boot : IsTrue (list_any (is_boot_of came.incarnation) (before_any is_talk (cell_past R came.service)))

-- Worker 0's list begins with the launches of all services, one by one, and what came up of them stands before every Accept, dialog and Missed.
pub record LaunchesComeFirst (C : Config) (R : Record) : Type 0 where
  pub came : List Came
  pub came_is : first_came R (length C.services) 0 (reverse (worker_list R 0)) ≡ Some came
  pub first : Each (ComesFirst R) came
