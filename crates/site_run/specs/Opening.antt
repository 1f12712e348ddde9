-- The launches of a run's services before its workers begin: what number 0 enters at the launcher, and what it notes.
use Rattle.std.specs.Prelude.{◌≡◌, ◌≢◌, ◌<◌, ◌≤◌, ℕ, suc, ◌+◌, ◌==◌, ◌&&◌, ◌||◌, Bool, true, false, Option, Some, None, List, [], ◌∷◌, ◌++◌, length, map}
use Rattle.okws_base.specs.Turns.{of, GrowsBy}
use Rattle.okws_plan.specs.declared.configuration.Config.{Config}
use Rattle.okws_plan.specs.declared.event.LauncherEvent.{LauncherEvent}
use Rattle.okws_plan.specs.declared.event.LauncherEvent.TheVariants as event
use Rattle.monitor_model.specs.declared.record.Own.{Own}
use Rattle.monitor_model.specs.declared.record.Own.TheVariants as own
use Rattle.turn_lock.specs.Rows.{RestsAt}
use Rattle.turn_lock.specs.Seats.{TurnIs, SeatIs}
use Rattle.site_locks.specs.Sat.{Sat}
use Rattle.launch_turns.specs.Deeds.{by_deed, entries, up_in}
use Rattle.okld_launch.specs.Entering.{entries_of, failed_from}
use Rattle.okld_launch.specs.declared.answer.Launched.{Launched}
use Rattle.okld_launch.specs.declared.answer.Launched.TheVariants as launched
use Rattle.launch_turns.specs.declared.deed.Deed.{Deed}
use Rattle.site_run.specs.Rows.{ChairsAre}

-- Memory was refused to a launch.
abbrev pub wants : Option Launched → Bool
wants (Some launched.NoMemory) = true
wants (Some (launched.Up k)) = false
wants (Some (launched.Dead n)) = false
wants (Some launched.Spent) = false
wants None = false

-- How a service's first launch ended behind the attempts that failed: its next incarnation came up; it was given up after n tries; or memory was refused, before its next incarnation was begun or later.
pub data Outcome : Type 0 where
  CameUp : Outcome
  Died : (n : ℕ) → Outcome
  Waited : Outcome
  BrokeOff : Outcome

-- A service's first launch: how many attempts failed, and how it ended.
pub record Opening : Type 0 where
  pub failed : ℕ
  pub outcome : Outcome

-- What the end of the launch of s enters, where k is the next incarnation, the newest first.
abbrev pub end_events : ℕ → ℕ → Outcome → List LauncherEvent
end_events s k CameUp = event.Begun s k ∷ []
end_events s k (Died n) = event.Dead s n ∷ []
end_events s k Waited = []
end_events s k BrokeOff = event.Begun s k ∷ []

-- What stands of it in the list of who launches: NoMemory too, where memory was refused.
abbrev pub end_items : ℕ → ℕ → Outcome → List Own
end_items s k CameUp = own.Launcher (event.Begun s k) ∷ []
end_items s k (Died n) = own.Launcher (event.Dead s n) ∷ []
end_items s k Waited = own.NoMemory ∷ []
end_items s k BrokeOff = own.NoMemory ∷ own.Launcher (event.Begun s k) ∷ []

-- What the first launch of s enters: its incarnations are numbered from 1 on.
abbrev pub opening_events : ℕ → Opening → List LauncherEvent
opening_events s o = end_events s (o.failed + 1) o.outcome ++ failed_from s 1 o.failed

-- What stands of it in the list.
abbrev pub opening_items : ℕ → Opening → List Own
opening_items s o = end_items s (o.failed + 1) o.outcome ++ map own.Launcher (failed_from s 1 o.failed)

-- What the first launches of the services from 0 on enter, that of the last service first.
abbrev pub all_events : List Opening → List LauncherEvent
all_events [] = []
all_events (o ∷ os) = opening_events (length os) o ++ all_events os

-- What stands of them in the list.
abbrev pub all_items : List Opening → List Own
all_items [] = []
all_items (o ∷ os) = opening_items (length os) o ++ all_items os

-- It came up.
abbrev pub is_up : Outcome → Bool
is_up CameUp = true
is_up (Died n) = false
is_up Waited = false
is_up BrokeOff = false

-- Which incarnations came up in the first launches of the services from 0 on.
abbrev pub ups_of : List Opening → ℕ → ℕ → Bool
ups_of [] s k = false
ups_of (o ∷ os) s k = (is_up o.outcome && ((length os == s) && (o.failed + 1 == k))) || ups_of os s k

-- Number w made these first launches, and did nothing else; it saw nothing else at the launcher, either. The turns tell which incarnations came up.
pub record Opens (w : ℕ) (os : List Opening) (items : List Own) (seen : List Deed) : Type 0 where
  pub items_are : items ≡ all_items os
  pub seen_is : entries seen ≡ entries_of w (all_events os)
  pub ups_are : (s k : ℕ) → up_in seen s k ≡ ups_of os s k

-- No other number took any of the turns that were seen.
abbrev pub IsAlone : ℕ → List Deed → Type 0
IsAlone w seen = (k : ℕ) → k ≢ w → of by_deed k seen ≡ []

-- The items of the first of these numbers.
abbrev pub items_first : List Sat → List Own
items_first [] = []
items_first (s ∷ ss) = s.own

-- What was seen from the first of these seats.
abbrev pub seen_first : List (SeatIs Deed) → List Deed
seen_first [] = []
seen_first (a ∷ as') = a.seen

-- Number 0 did nothing, and saw nothing at the launcher.
pub record IsUnopened (x : ChairsAre) : Type 0 where
  pub items_are : items_first x.seats ≡ []
  pub seen_is : seen_first x.turns ≡ []

-- Each service was launched, one after the other, from the seats of number 0; that is all that it did and all that it saw at the launcher.
pub record IsOpened (C : Config) (items : List Own) (seen : List Deed) : Type 0 where
  pub openings : List Opening
  pub all : length openings ≡ length C.services
  pub opens : Opens 0 openings items seen

-- That is so of the seats of numbers from 0 on, unless a number behind them took a turn at the launcher.
abbrev pub HasOpened : Config → ChairsAre → Type 0
HasOpened C x =
    ((k : ℕ) → length x.turns ≤ k → of by_deed k (seen_first x.turns) ≡ []) → IsOpened C (items_first x.seats) (seen_first x.turns)

-- A seat, which may have seen more of the turns that others took.
pub record SeesMore (a b : SeatIs Deed) : Type 0 where
  pub is : b ≡ record a { seen = b.seen }
  pub grows : GrowsBy by_deed a.number a.seen b.seen

-- The same of each of these.
abbrev pub AllSeeMore : List (SeatIs Deed) → List (SeatIs Deed) → Type 0
AllSeeMore [] [] = Unit {0}
AllSeeMore [] (b ∷ bs) = ⊥
AllSeeMore (a ∷ as') [] = ⊥
AllSeeMore (a ∷ as') (b ∷ bs) = SeesMore a b × AllSeeMore as' bs

-- Seats at this lock of the launcher, where they rest, of numbers that rise by one from k.
abbrev pub AreTurns : TurnIs → ℕ → List (SeatIs Deed) → Type 0
AreTurns t k [] = Unit {0}
AreTurns t k (a ∷ as') = (a.number ≡ k) × RestsAt t a × AreTurns t (suc k) as'

-- From none of these seats, whose numbers rise by one from k, was a turn taken that was seen there, unless it is number 0's.
abbrev pub AreQuiet : ℕ → List (SeatIs Deed) → Type 0
AreQuiet k [] = Unit {0}
AreQuiet k (a ∷ as') = (0 < k → of by_deed k a.seen ≡ []) × AreQuiet (suc k) as'
