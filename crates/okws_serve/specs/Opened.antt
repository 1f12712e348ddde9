-- That the services of a run were launched before anything else was entered at the launcher.
use Rattle.std.specs.Prelude.{◌≡◌, ◌<◌, ◌≤◌, ℕ, ◌+◌, List, [], ◌∷◌, ◌++◌, length, if◌then◌else◌, IsTrue}
use Rattle.std.specs.List.{list_any}
use Rattle.okws_base.specs.Turns.{Behind, of}
use Rattle.okws_base.specs.declared.journal.Entry.{Entry}
use Rattle.okws_plan.specs.declared.configuration.Config.{Config}
use Rattle.okws_plan.specs.declared.event.LauncherEvent.{LauncherEvent}
use Rattle.okws_plan.specs.declared.event.OkdEvent.{OkdEvent}
use Rattle.monitor_model.specs.declared.record.CellEvent.{CellEvent}
use Rattle.monitor_model.specs.declared.record.Own.{Own}
use Rattle.monitor_model.specs.declared.record.Record.{Record}
use Rattle.monitor_model.specs.Causes.{has_up}
use Rattle.monitor_model.specs.First.{Came, LaunchesComeFirst}
use Rattle.monitor_model.specs.Launches.{is_begun_of}
use Rattle.monitor_model.specs.Pieces.{worker_list}
use Rattle.named_columns.specs.Launched.{by_entry}
use Rattle.site_cells.specs.Held.{by_event}
use Rattle.site_cells.specs.Row.{seen_at}
use Rattle.launch_turns.specs.Deeds.{by_deed}
use Rattle.okld_launch.specs.Entering.{entries_of}
use Rattle.launch_turns.specs.Standing.{BootsStand, UpsStand}
use Rattle.site_worker.specs.Lives.{Life}
use Rattle.site_run.specs.Opening.{IsOpened, Opening, all_events, all_items, is_up, ups_of}

-- The first of these lives began with the first launches of all services, unless a number from n on took a turn at the launcher.
abbrev pub OpensFirst : Config → ℕ → List Life → Type 0
OpensFirst C n [] = Unit {0}
OpensFirst C n (J ∷ Js) = ((k : ℕ) → n ≤ k → of by_deed k J.launcher.seen ≡ []) → IsOpened C J.seen.own J.launcher.seen

-- These events of the cell of s were seen in the life J, and none of them was entered by a number below m; among them is the Boot of each incarnation of s that came up in the turns that J had seen at the launcher. Number n launches.
pub record CellShows (n m s : ℕ) (J : Life) : Type 0 where
  pub events : List CellEvent
  pub stand : BootsStand s J.launcher.seen events
  pub seen : Behind events (seen_at J.cells s)
  pub quiet : (w : ℕ) → w < m → of (by_event n) w events ≡ []

-- What came up in the turns that the life J had seen at the launcher stands among these entries of okd, none of which a number below m made, and its Boot stands so in its cell.
pub record LifeShows (C : Config) (n m : ℕ) (entries : List (Entry OkdEvent)) (J : Life) : Type 0 where
  pub ups : UpsStand J.launcher.seen entries
  pub quiet : (w : ℕ) → w < m → of by_entry w entries ≡ []
  pub boots : (s : ℕ) → s < length C.services → CellShows n m s J

-- So it is of the first of these lives, of m numbers, unless a number from m on took a turn at the launcher.
abbrev pub ShowsFirst : Config → ℕ → ℕ → List (Entry OkdEvent) → List Life → Type 0
ShowsFirst C n m entries [] = Unit {0}
ShowsFirst C n m entries (J ∷ Js) = ((k : ℕ) → m ≤ k → of by_deed k J.launcher.seen ≡ []) → LifeShows C n m entries J

-- What came up in these first launches of the services from 0 on, that of service 0 first.
abbrev pub came_in : List Opening → List Came
came_in [] = []
came_in (o ∷ os) = came_in os ++ (if is_up o.outcome then record { service = length os; incarnation = o.failed + 1 } ∷ [] else [])

-- Worker 0's list begins with the first launches of all services, one after the other, and the launcher's journal with what these entered. What was begun in them has its Up in okd's journal just where it came up. So just that came up by the record's first launches; and each has its Up before every Accept, and its Boot before every dialog and Missed of its cell.
pub record BeginsWithLaunches (C : Config) (R : Record) : Type 0 where
  pub openings : List Opening
  pub all : length openings ≡ length C.services
  pub later : List Own
  pub list_is : worker_list R 0 ≡ later ++ all_items openings
  pub after : List (Entry LauncherEvent)
  pub journal_is : R.launcher ≡ after ++ entries_of 0 (all_events openings)
  pub ups_are : (s k : ℕ) → IsTrue (list_any (is_begun_of s k) (all_events openings)) → has_up R s k ≡ ups_of openings s k
  pub comes : LaunchesComeFirst C R
  pub came_are : comes.came ≡ came_in openings
