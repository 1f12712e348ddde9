-- How the seats of a run's workers are tied to what the workers saw, and both to the record that the run leaves. Number n launches; the workers have the numbers below it.
use Rattle.std.specs.Prelude.{◌≡◌, ◌<◌, ◌≤◌, ℕ, suc, Bool, true, false, List, [], ◌∷◌, ◌++◌, length, map, filter_map, None, slice_index, IsTrue}
use Rattle.std.specs.List.{list_all, list_any}
use Rattle.okws_base.specs.Past.{Grows, events_of}
use Rattle.okws_base.specs.Turns.{of}
use Rattle.okws_base.specs.declared.journal.Entry.{Entry}
use Rattle.okws_plan.specs.declared.configuration.Config.{Config}
use Rattle.okws_plan.specs.declared.event.LauncherEvent.{LauncherEvent}
use Rattle.okws_plan.specs.declared.event.LauncherEvent.TheVariants.{Begun, Failed, Crashed, Dead, Asked}
use Rattle.okws_plan.specs.declared.event.LogEvent.{LogEvent}
use Rattle.okws_plan.specs.declared.event.OkdEvent.{OkdEvent}
use Rattle.okws_plan.specs.declared.event.ProxyEvent.{ProxyEvent}
use Rattle.okws_plan.specs.declared.event.PubdEvent.{PubdEvent}
use Rattle.monitor_model.specs.declared.record.Own.{Own}
use Rattle.monitor_model.specs.declared.record.Own.TheVariants as own
use Rattle.monitor_model.specs.declared.record.Record.{Record}
use Rattle.monitor_model.specs.Causes.{has_up}
use Rattle.monitor_model.specs.Launcher.{begun}
use Rattle.monitor_model.specs.Launches.{is_begun_of}
use Rattle.monitor_model.specs.Merged.{IsOwn, is_launch, launcher_item, list_of}
use Rattle.monitor_model.specs.Tied.{EndsIn}
use Rattle.monitor_model.specs.Worker.{nothing_seen}
use Rattle.turn_lock.specs.Board.{none_begun}
use Rattle.turn_lock.specs.Seats.{SeatIs}
use Rattle.site_cells.specs.Held.{by_event}
use Rattle.site_cells.specs.Closing.{CellsGrow}
use Rattle.named_columns.specs.Launched.{by_entry}
use Rattle.site_cells.specs.Row.{CellsSeen, IsNew, seen_at}
use Rattle.site_locks.specs.Closing.{AllGrown, RowsGrown}
use Rattle.site_locks.specs.Made.{fresh}
use Rattle.site_locks.specs.Sat.{Sat, seen_of}
use Rattle.site_worker.specs.Lives.{Life, number_of}
use Rattle.worker_lives.specs.Ending.{launches_end}
use Rattle.worker_lives.specs.Waiting.{LeadsSo}
use Rattle.launch_turns.specs.Deeds.{by_deed, ended_in, entries, up_in}
use Rattle.launch_turns.specs.declared.deed.Deed.{Deed}
use Rattle.site_run.specs.Rows.{ChairsAre}

-- The event begins a launch, or tells how one ended.
abbrev pub is_launch_event : LauncherEvent → Bool
is_launch_event (Begun s k) = true
is_launch_event (Failed s k) = true
is_launch_event (Dead s n) = true
is_launch_event (Crashed s k) = false
is_launch_event (Asked s) = false

-- The item is such an event at the launcher, or tells that memory was refused.
abbrev pub is_launching : Own → Bool
is_launching (own.Launcher e) = is_launch_event e
is_launching own.NoMemory = true
is_launching _ = false

-- Number w took turns at the launcher, which no operator asked for, and did nothing else: what it entered there it noted, in order, and besides it noted want of memory alone. What it entered leads on, and each launch that it began came up, failed, or ended for want of memory.
pub record OnlyLaunches (w : ℕ) (items : List Own) (seen : List Deed) : Type 0 where
  pub entered : events_of w (entries seen) ≡ filter_map launcher_item items
  pub only : IsTrue (list_all is_launching items)
  pub lead : LeadsSo w false items (entries seen)
  pub ends : IsTrue (launches_end (up_in seen) None items)

-- Want of memory was noted so, where there was any.
abbrev pub IsNotedWhere : Bool → List Own → List Own → Type 0
IsNotedWhere true items now = now ≡ own.NoMemory ∷ items
IsNotedWhere false items now = now ≡ items

-- Nothing was seen or done from the seats of number w, unless it is number 0: from its seat at the launcher the services are launched before the workers begin. What was seen there from the others was entered from none of them, and none of them took a turn there.
pub record IsUnusedChair (C : Config) (w : ℕ) (s : Sat) (c : CellsSeen) (a : SeatIs Deed) : Type 0 where
  pub sat_is : s ≡ record (fresh (length C.proxies) w) { own = s.own; spare = s.spare }
  pub cells : IsNew (length C.services) w c
  pub seat : a.number ≡ w
  pub launches : OnlyLaunches w s.own a.seen
  pub none : 0 < w → s.own ≡ []
  pub turns : 0 < w → of by_deed w a.seen ≡ []

-- The same of numbers that rise by one from w.
abbrev pub AreUnused : Config → ℕ → List Sat → List CellsSeen → List (SeatIs Deed) → Type 0
AreUnused C w [] [] [] = Unit {0}
AreUnused C w [] [] (a ∷ as') = ⊥
AreUnused C w [] (c ∷ cs) as' = ⊥
AreUnused C w (s ∷ ss) [] as' = ⊥
AreUnused C w (s ∷ ss) (c ∷ cs) [] = ⊥
AreUnused C w (s ∷ ss) (c ∷ cs) (a ∷ as') = IsUnusedChair C w s c a × AreUnused C (suc w) ss cs as'

-- The same of the numbers from 0 on.
abbrev pub Unused : Config → ChairsAre → Type 0
Unused C x = AreUnused C 0 x.seats x.cells x.turns

-- Seats of number w at so many cells, at which it did nothing. Number n launches.
pub record IsSilent (n cells w : ℕ) (a : CellsSeen) : Type 0 where
  pub number_is : a.number ≡ w
  pub cells_are : length a.cells ≡ cells
  pub none : (s : ℕ) → of (by_event n) w (seen_at a s) ≡ []

-- Nothing was done from the seats of number w, but that number 0 launched the services; they may have seen what the launcher did at okd and at the cells.
pub record IsWaitingChair (C : Config) (n w : ℕ) (s : Sat) (c : CellsSeen) (a : SeatIs Deed) : Type 0 where
  pub sat_is : s ≡ record (fresh (length C.proxies) w) { okd = s.okd; own = s.own; spare = s.spare }
  pub okd : of by_entry w s.okd ≡ []
  pub cells : IsSilent n (length C.services) w c
  pub seat : a.number ≡ w
  pub launches : OnlyLaunches w s.own a.seen
  pub none : 0 < w → s.own ≡ []

-- The same of numbers that rise by one from w.
abbrev pub AreWaiting : Config → ℕ → ℕ → List Sat → List CellsSeen → List (SeatIs Deed) → Type 0
AreWaiting C n w [] [] [] = Unit {0}
AreWaiting C n w [] [] (a ∷ as') = ⊥
AreWaiting C n w [] (c ∷ cs) as' = ⊥
AreWaiting C n w (s ∷ ss) [] as' = ⊥
AreWaiting C n w (s ∷ ss) (c ∷ cs) [] = ⊥
AreWaiting C n w (s ∷ ss) (c ∷ cs) (a ∷ as') = IsWaitingChair C n w s c a × AreWaiting C n (suc w) ss cs as'

-- The same of the numbers from 0 on.
abbrev pub Waiting : Config → ℕ → ChairsAre → Type 0
Waiting C n x = AreWaiting C n 0 x.seats x.cells x.turns

-- The seats of one number are those of this life: what was seen from them is what the life has seen, with its own items.
pub record IsChairOf (J : Life) (s : Sat) (c : CellsSeen) (a : SeatIs Deed) : Type 0 where
  pub seen_is : J.seen ≡ seen_of s
  pub board_is : J.board ≡ s.board
  pub okd_is : J.okd ≡ s.okd
  pub pubd_is : J.pubd ≡ s.pubd
  pub oklogd_is : J.oklogd ≡ s.oklogd
  pub cells_is : J.cells ≡ c
  pub launcher_is : J.launcher ≡ a

-- The same of each of these lives, in order.
abbrev pub AreChairsOf : List Life → List Sat → List CellsSeen → List (SeatIs Deed) → Type 0
AreChairsOf [] [] [] [] = Unit {0}
AreChairsOf [] [] [] (a ∷ as') = ⊥
AreChairsOf [] [] (c ∷ cs) as' = ⊥
AreChairsOf [] (s ∷ ss) cs as' = ⊥
AreChairsOf (J ∷ Js) [] cs as' = ⊥
AreChairsOf (J ∷ Js) (s ∷ ss) [] as' = ⊥
AreChairsOf (J ∷ Js) (s ∷ ss) (c ∷ cs) [] = ⊥
AreChairsOf (J ∷ Js) (s ∷ ss) (c ∷ cs) (a ∷ as') = IsChairOf J s c a × AreChairsOf Js ss cs as'

-- The seats in these rows are those of these lives, that of number 0 first.
abbrev pub SeatsOf : List Life → ChairsAre → Type 0
SeatsOf Js x = AreChairsOf Js x.seats x.cells x.turns

-- There are these seats, and behind them those of these lives.
pub record MoreOf (Js : List Life) (x y : ChairsAre) : Type 0 where
  pub seats : List Sat
  pub cells : List CellsSeen
  pub turns : List (SeatIs Deed)
  pub seats_are : y.seats ≡ x.seats ++ seats
  pub cells_are : y.cells ≡ x.cells ++ cells
  pub turns_are : y.turns ≡ x.turns ++ turns
  pub whose : AreChairsOf Js seats cells turns

-- A life of number w begins: it has seen nothing of the board, and nothing of the columns up to an entry of its own, and did nothing there and at the cells. Number 0 took turns at the launcher before, since the services are launched under it before the workers begin; the others have seen what was entered there.
pub record LifeBegins (C : Config) (n w : ℕ) (J : Life) : Type 0 where
  pub seen_is : J.seen ≡ record (nothing_seen (length C.proxies)) { own = J.seen.own }
  pub board_is : J.board ≡ none_begun
  pub okd : of by_entry w J.okd ≡ []
  pub pubd_is : J.pubd ≡ []
  pub oklogd_is : J.oklogd ≡ []
  pub cells : IsSilent n (length C.services) w J.cells
  pub seat : J.launcher.number ≡ w
  pub launches : OnlyLaunches w J.seen.own J.launcher.seen
  pub none : 0 < w → J.seen.own ≡ []

-- The same of numbers that rise by one from w.
abbrev pub AllBegin : Config → ℕ → ℕ → List Life → Type 0
AllBegin C n w [] = Unit {0}
AllBegin C n w (J ∷ Js) = LifeBegins C n w J × AllBegin C n (suc w) Js

-- The Begun of incarnation k of s stands among these entries.
abbrev pub has_begun : List (Entry LauncherEvent) → ℕ → ℕ → Bool
has_begun J s k = list_any (λ (e : Entry LauncherEvent). is_begun_of s k e.event) J

-- A life of number w ends in a record: its own items are that number's list there, and each journal and each cell went on by entries of others alone from what it had seen there at last, okd's, pubd's and oklogd's also from what it saw where it entered nothing. The turns that it saw at the launcher are those of workers. What was begun in them has its Up in okd's journal just where it came up by them; and which child has ended by them, `ended` tells. It saw no incarnation on the board that was not begun.
pub record LifeEnds (n w : ℕ) (J : Life) (R : Record) (ended : ℕ → ℕ → Bool) : Type 0 where
  pub number_is : number_of J ≡ w
  pub own_is : J.seen.own ≡ list_of R w
  pub columns : EndsIn R w J.seen
  pub okd : Grows w J.okd R.okd
  pub pubd : Grows w J.pubd R.pubd
  pub oklogd : Grows w J.oklogd R.oklogd
  pub cells : CellsGrow n w J.cells.cells R.cells
  pub launcher : Grows w (entries J.launcher.seen) R.launcher
  pub turns : (k : ℕ) → n ≤ k → of by_deed k J.launcher.seen ≡ []
  pub ups : (s k : ℕ) → IsTrue (has_begun (entries J.launcher.seen) s k) → has_up R s k ≡ up_in J.launcher.seen s k
  pub ends : (s k : ℕ) → IsTrue (ended_in J.launcher.seen s k) → IsTrue (ended s k)
  pub board : (s : ℕ) → s < length R.cells → slice_index J.board s ≤ begun R.launcher s

-- The same of numbers that rise by one from w.
abbrev pub AllEnd : ℕ → ℕ → List Life → Record → (ℕ → ℕ → Bool) → Type 0
AllEnd n w [] R ended = Unit {0}
AllEnd n w (J ∷ Js) R ended = LifeEnds n w J R ended × AllEnd n (suc w) Js R ended

-- The launcher's number made just what stands in its list, in order, in each journal and each cell; and it did nothing but launch.
pub record LaunchesAreOwn (n : ℕ) (R : Record) : Type 0 where
  pub own : IsOwn R n n R.launches
  pub launches : IsTrue (list_all is_launch R.launches)

-- The journals of the columns go on by entries of others alone from what each number had seen there.
pub record ColumnsGrown (seats : List Sat) (okd : List (Entry OkdEvent)) (proxies : List (List (Entry ProxyEvent))) (pubd : List (Entry PubdEvent)) (oklogd : List (Entry LogEvent)) : Type 0 where
  pub okd_grown : AllGrown (λ s. s.okd) seats okd
  pub proxies_grown : RowsGrown seats proxies
  pub pubd_grown : AllGrown (λ s. s.pubd) seats pubd
  pub log_grown : AllGrown (λ s. s.oklogd) seats oklogd

-- These are the own lists of all numbers but the last.
pub record AreLists (seats : List Sat) (lists : List (List Own)) : Type 0 where
  pub last : List Own
  pub lists_are : map (λ (s : Sat). s.own) seats ≡ lists ++ last ∷ []
