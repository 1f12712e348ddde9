-- What a worker has seen and done.
use Rattle.std.specs.Prelude.{◌≡◌, ◌≤◌, ◌+◌, ℕ, Bool, true, false, List, length, slice_index}
use Rattle.okws_base.specs.declared.journal.Entry.{Entry}
use Rattle.okws_base.specs.declared.limit.TheConstants.{GREATEST_RETRY}
use Rattle.okws_plan.specs.declared.configuration.Config.{Config}
use Rattle.okws_plan.specs.declared.event.LogEvent.{LogEvent}
use Rattle.okws_plan.specs.declared.event.OkdEvent.{OkdEvent}
use Rattle.okws_plan.specs.declared.event.PubdEvent.{PubdEvent}
use Rattle.monitor_model.specs.declared.record.Own.TheVariants as own
use Rattle.monitor_model.specs.Seen.{Seen, noted}
use Rattle.turn_lock.specs.Seats.{TurnIs, SeatIs}
use Rattle.turn_lock.specs.Rows.{RestsAt}
use Rattle.site_cells.specs.Row.{CellsSeen}
use Rattle.site_worker.specs.Asking.{KeepsPasts}
use Rattle.site_locks.specs.Sat.{Sat, seen_of}
use Rattle.launch_turns.specs.declared.deed.Deed.{Deed}

-- What it has seen of each column at its own last entry there, with its own items; what it has seen of each cell, of each service on the board, and of okd, pubd and oklogd in all, also where it entered nothing; its seat at the launcher's lock; and what the launcher had seen at okd when its last turn there ended, or what it had seen there itself when it began.
pub record Life : Type 0 where
  pub seen : Seen
  pub cells : CellsSeen
  pub board : List ℕ
  pub okd : List (Entry OkdEvent)
  pub pubd : List (Entry PubdEvent)
  pub oklogd : List (Entry LogEvent)
  pub launcher : SeatIs Deed
  pub shown : List (Entry OkdEvent)

-- The same, of its seats at the columns, at the cells and at the launcher's lock, and with what it was shown of okd.
abbrev pub life_of : Sat → CellsSeen → SeatIs Deed → List (Entry OkdEvent) → Life
life_of s cells launcher shown = record { seen = seen_of s; cells = cells; board = s.board; okd = s.okd; pubd = s.pubd; oklogd = s.oklogd; launcher = launcher; shown = shown }

-- A worker: what it has seen and done, and how many items it may note without memory.
pub record Working : Type 0 where
  pub life : Life
  pub spare : ℕ

-- It noted so many items in its spare places at most.
abbrev pub Spends : ℕ → Working → Working → Type 0
Spends most J K = J.spare ≤ K.spare + most

-- The number that its entries name.
abbrev pub number_of : Life → ℕ
number_of J = J.cells.number

-- As much was seen of each service on the board, or more.
abbrev pub Rises : List ℕ → List ℕ → Type 0
Rises old new = (s k : ℕ) → k ≤ slice_index old s → k ≤ slice_index new s

-- The worker has seen this of the columns, and may have seen more of the board, and of okd, pubd and oklogd in all; everything else is the same.
pub record Sees (now : Seen) (J K : Life) : Type 0 where
  pub seen_is : K.seen ≡ now
  pub cells_is : K.cells ≡ J.cells
  pub launcher_is : K.launcher ≡ J.launcher
  pub shown_is : K.shown ≡ J.shown
  pub board : Rises J.board K.board
  pub okd : KeepsPasts J.okd K.okd
  pub pubd : KeepsPasts J.pubd K.pubd
  pub oklogd : KeepsPasts J.oklogd K.oklogd

-- Want of memory was noted.
abbrev pub Starves : Life → Life → Type 0
Starves J K = Sees (noted J.seen own.NoMemory) J K

-- Want of memory was noted so, where there was any.
abbrev pub StarvesWhere : Bool → Life → Life → Type 0
StarvesWhere true J K = Starves J K
StarvesWhere false J K = K ≡ J

-- A worker of this number at a site, which gives a service up after no more tries than are allowed, at this lock of the launcher.
pub record IsWorker (C : Config) (services number : ℕ) (turn : TurnIs) (J : Life) : Type 0 where
  pub services_is : services ≡ length C.services
  pub number_is : number_of J ≡ number
  pub cells_are : length J.cells.cells ≡ length C.services
  pub rests : RestsAt turn J.launcher
  pub launcher_number : J.launcher.number ≡ number_of J
  pub retry : C.retry ≤ GREATEST_RETRY

-- The same worker: its number is the same, and its seat at the launcher, which may have seen more.
pub record SameWorker (J K : Life) : Type 0 where
  pub number_is : number_of K ≡ number_of J
  pub launcher_is : K.launcher ≡ record J.launcher { seen = K.launcher.seen }
